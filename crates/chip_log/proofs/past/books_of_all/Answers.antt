use Rattle.chip_log.proofs.Names.{◌≡◌, List, get_or, sym, subst, arith, ◌-◌, drop, length-drop, drop_all}
use Rattle.chip_log.proofs.Names.{All-get_or, AreKept, FitsRow, LogRow}
use Rattle.chip_log.proofs.BooksLemmas.{kept_more}
use Rattle.chip_log.proofs.LoopLemmas.{keep_room, no_row, from_last, kept_sized}
use Rattle.chip_log.proofs.past.books_of_all.Goals as goal

pub keep-requires : goal.keep-requires
keep-requires c =
    let inv = c.loop-left.invariant in
    let a = length-drop c.loop-left.left c.args.rows.now in
    keep_room c.args.sizes (get_or c.args.rows.now (c.loop-left.left - 1) no_row) (drop c.loop-left.left c.args.rows.now)
    c.loop-left.books (All-get_or (FitsRow c.args.sizes) c.args.rows.now (c.loop-left.left - 1) no_row (omega arith) c.requires.fits)
    inv.sized inv.keeps (omega arith)

pub loop-left-init : goal.loop-left-init
loop-left-init c = record {
  place = omega arith;
  sized = c.in_ok-books.ensures.sized;
  keeps = subst (λ (zs : List LogRow). AreKept zs c.in_ok-books.books)
      (sym (drop_all _ c.args.rows.now (omega arith))) c.in_ok-books.ensures.none.keeps;
}

pub loop-left-preserved : goal.loop-left-preserved
loop-left-preserved c =
    let inv = c.loop-left.invariant in
    let a = length-drop c.loop-left.left c.args.rows.now in
    let fits = All-get_or (FitsRow c.args.sizes) c.args.rows.now (c.loop-left.left - 1) no_row (omega arith) c.requires.fits in
    record {
      place = omega arith;
      sized = kept_sized c.args.sizes _ _ c.loop-left.books c.keep.new.self inv.sized
          (rw c.keep.ensures.flight) c.keep.ensures.keeps;
      keeps = rw (from_last c.args.rows.now c.loop-left.left no_row (omega arith) (omega arith))
          (kept_more (drop c.loop-left.left c.args.rows.now) (get_or c.args.rows.now (c.loop-left.left - 1) no_row)
          c.loop-left.books c.keep.new.self
          (let b = fits.process in let d = inv.sized.processes in omega arith)
          (let b = fits.process in let d = inv.sized.counted in omega arith) inv.keeps c.keep.ensures.keeps);
    }

pub returns : goal.returns
returns c =
    let inv = c.loop-left.invariant in
    let none_left : c.loop-left.left ≡ 0 = (let e = c.loop-left-test.false in omega arith) in
    record {
      sized = inv.sized;
      keeps = rw none_left at inv.keeps;
    }
