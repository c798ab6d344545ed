use Rattle.chip_report.proofs.Names.{◌≡◌, ℕ, ◌+◌, ◌-◌, ◌≤◌, List, ◌++◌, length, take, drop, sym, ap, ◌∙◌, arith}
use Rattle.chip_report.proofs.Names.{take-add, rules, subst, Appends, common_steps, take_all, length-drop, bytes_out}
use Rattle.std.proofs.KnownBytes.{Appends-trans}
use Rattle.chip_report.proofs.write.write_all_to.Goals as goal

-- the first bytes and some of the rest, as a loop reads them
taken_on : (w n : ℕ) (bytes : List ℕ) → w ≤ length bytes → n ≤ length (take (length bytes - w) (drop w bytes))
    → (w + n ≤ length bytes) × (take w bytes ++ take n (take (length bytes - w) (drop w bytes)) ≡ take (w + n) bytes)
taken_on w n bytes le some =
    let whole : take (length bytes - w) (drop w bytes)
    ≡ drop w bytes = take_all (length bytes - w) (drop w bytes) (let e = length-drop w bytes in omega arith) in
    let many : n ≤ length bytes - w = (let e = ap length whole in let d = length-drop w bytes in omega arith) in
    (omega arith, ap (λ (rest : List ℕ). take w bytes ++ take n rest) whole ∙ sym (take-add w n bytes))

pub loop-written-preserved : goal.loop-written-preserved
loop-written-preserved g c =
    let on = taken_on c.loop-written.written c.in-Ok.count c.args.bytes.now c.loop-written.invariant.within
    c.in-Ok.ensures.bound in
    record {
      within = on.0;
      so_far = subst (Appends (bytes_out g.W.Write.contents c.args.sink.now)
          (bytes_out g.W.Write.contents c.write.new.self)) on.1
          (Appends-trans _ _ _ _ _ c.loop-written.invariant.so_far c.in-Ok.ensures.bytes);
      few = search rules;
      more = grind (arith, common_steps);
      lent = search rules;
    }
