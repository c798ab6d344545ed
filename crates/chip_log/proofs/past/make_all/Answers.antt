use Rattle.chip_log.proofs.Names.{◌<◌, length, get_or, arith, take, take_more}
use Rattle.chip_log.proofs.BooksLemmas.{make_flight}
use Rattle.chip_log.proofs.LoopLemmas.{no_row, make_room}
use Rattle.chip_log.proofs.past.make_all.Goals as goal

pub make-requires-clause-room : goal.make-requires-clause-room
make-requires-clause-room c =
    let l : c.loop-next.next < length c.args.rows.now = omega arith in
    make_room c.args.rows.now c.args.sizes c.requires.order c.loop-next.next no_row l
    c.loop-next.books.flight c.loop-next.invariant.made.flight

pub loop-next-preserved : goal.loop-next-preserved
loop-next-preserved c =
    let inv = c.loop-next.invariant in
    let l : c.loop-next.next < length c.args.rows.now = omega arith in
    let made = c.make.ensures in
    record {
      place = omega arith;
      claimer = rw made.claimer inv.claimer;
      sized = record {
        processes = rw made.said inv.sized.processes;
        counted = rw made.rows inv.sized.counted;
        flight = rw made.makes.same at inv.sized.flight;
        taken = rw made.taken inv.sized.taken;
        sent = rw made.sent inv.sized.sent;
      };
      made = record {
        flight = rw (take_more c.args.rows.now c.loop-next.next no_row l)
            (make_flight (take c.loop-next.next c.args.rows.now) (get_or c.args.rows.now c.loop-next.next no_row)
            c.loop-next.books.flight c.make.new.self.flight inv.made.flight made.makes);
        keeps = record {
          taken = rw made.taken inv.made.keeps.taken;
          sent = rw made.sent inv.made.keeps.sent;
          rows = rw made.rows inv.made.keeps.rows;
          said = rw made.said inv.made.keeps.said;
        };
      };
    }
