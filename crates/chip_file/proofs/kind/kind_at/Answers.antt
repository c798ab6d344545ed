use Rattle.chip_file.proofs.Names.{◌≡◌, ℕ, ◌<◌, ◌+◌, Bool, true, false, List, length, drop, get_or, Some, sym, ◌∙◌}
use Rattle.chip_file.proofs.Names.{refl, add-one, drop-cons, Bor, bytes_eq, if◌then◌else◌, kind_named, named_kinds}
use Rattle.chip_file.proofs.kind.kind_at.Goals as goal

-- the kinds from an index on, by a test of the first one's name
from_index : {K : Type 0} (kinds : List (Bor (List ℕ) × K)) (name : List ℕ) (i : ℕ) (kind : Bor (List ℕ) × K)
    (text : Bor (List ℕ)) (test : Bool) → i < length kinds → kind ≡ get_or kinds i kind → text.now ≡ kind.0.now
    → test ≡ bytes_eq name text.now
    → kind_named (named_kinds (drop i kinds)) name
    ≡ (if test then Some kind.1 else kind_named (named_kinds (drop (i + 1) kinds)) name)
from_index kinds name i kind text test below is same e =
    rw (add-one, drop-cons kinds i kind, ← is, e, same) refl

pub returns-then-eq : goal.returns-then-eq
returns-then-eq g c =
    rw (← c.in_ok-name.ensures.value) (sym (c.loop-kind_name.invariant ∙ from_index c.args.kinds.now c.in_ok-name.name.now
    c.loop-kind_name.kind_name-index _ c.as_bytes.result true
    c.loop-kind_name-test.true c.loop-kind_name-item.is c.as_bytes.ensures.value c.if-eq.ensures))

pub loop-kind_name-preserved : goal.loop-kind_name-preserved
loop-kind_name-preserved g c =
    c.loop-kind_name.invariant ∙ from_index c.args.kinds.now c.in_ok-name.name.now c.loop-kind_name.kind_name-index _
    c.as_bytes.result false
    c.loop-kind_name-test.true c.loop-kind_name-item.is c.as_bytes.ensures.value c.if-eq.ensures
