use Rattle.chip_file.proofs.JsonNames.{◌≡◌, ◌∷◌, Some, None, ap, arith, after_end_array, read_key, value, token_of}
use Rattle.chip_file.proofs.JsonNames.{read_key-shorter, value_is, put, number, of_json, converted, number_view}
use Rattle.chip_file.proofs.Turns.{members_over, key_refused, member_read, member_refused, array_passed, object_passed}
use Rattle.chip_file.proofs.Turns.{array_deep, object_deep, nothing_read, number_read, number_refused, leaf_read}
use Rattle.chip_file.proofs.Turns.{none_before, one_more, no_more, all_read}
use Rattle.chip_file.proofs.graph_text.passing.+pass.Goals as goal

pub pass-returns-in_err-token-clause-value : goal.pass-returns-in_err-token-clause-value
pass-returns-in_err-token-clause-value t c =
    let none = nothing_read c.args.depth c.args.reader.now (grind arith) in grind (arith, none)

pub pass_items-items-init : goal.pass_items-items-init
pass_items-items-init t c = (_, none_before c.args.depth c.args.reader.now)

pub pass_items-items-preserved : goal.pass_items-items-preserved
pass_items-items-preserved t c =
    let l = c.items in
    let going : (after_end_array l.reader ≡ None) × (c.take_end_array.new.self ≡ l.reader) = grind arith in
    let done = c.in_ok-pass.ensures in
    (_, one_more l.invariant.1 going.0 going.1 done.value.1 done.shorter)

pub pass_items-returns-in_err-pass-clause-value : goal.pass_items-returns-in_err-pass-clause-value
pass_items-returns-in_err-pass-clause-value t c =
    let l = c.items in
    let going : (after_end_array l.reader ≡ None) × (c.take_end_array.new.self ≡ l.reader) = grind arith in
    let none = no_more l.invariant.1 going.0 going.1 c.in_err-pass.ensures.value in
    grind (arith, none)

pub pass_items-returns-clause-value : goal.pass_items-returns-clause-value
pass_items-returns-clause-value t c =
    let l = c.items in
    let over : after_end_array l.reader ≡ Some c.take_end_array.new.self = grind arith in
    (_, all_read l.invariant.1 over, tt)

pub pass_members-members-init : goal.pass_members-members-init
pass_members-members-init t c = (_, (λ what e. e), omega arith)

pub pass_members-returns-in_err-map_err-clause-value :
    goal.pass_members-returns-in_err-map_err-clause-value
pass_members-returns-in_err-map_err-clause-value t c =
    let l = c.members in
    let refused : read_key l.reader ≡ None = grind arith in
    let none = l.invariant.1 None (key_refused c.args.depth l.invariant.0 l.reader refused) in
    grind (arith, none)

pub pass_members-members-preserved : goal.pass_members-members-preserved
pass_members-members-preserved t c =
    let l = c.members in
    let k = c.in-Some.field-0.now in
    let s = c.next_key.new.self in
    let named : read_key l.reader ≡ Some (Some k, s) = grind arith in
    let done = c.in_ok-pass.ensures in
    let r = c.pass.new.reader in
    let less = read_key-shorter l.reader (Some k) s named in
    let lesser = done.shorter in (
      put k done.value.0 l.invariant.0,
      (λ what later. l.invariant.1 what (member_read c.args.depth l.invariant.0 k l.reader s r done.value.0 named
          done.value.1 (omega arith) what later)),
      omega (arith, l.invariant.2),
    )

pub pass_members-returns-in_err-pass-clause-value :
    goal.pass_members-returns-in_err-pass-clause-value
pass_members-returns-in_err-pass-clause-value t c =
    let l = c.members in
    let k = c.in-Some.field-0.now in
    let s = c.next_key.new.self in
    let named : read_key l.reader ≡ Some (Some k, s) = grind arith in
    let none = l.invariant.1 None (member_refused c.args.depth l.invariant.0 k l.reader s named
    c.in_err-pass.ensures.value) in
    grind (arith, none)

pub pass_members-returns-clause-value : goal.pass_members-returns-clause-value
pass_members-returns-clause-value t c =
    let l = c.members in
    let over : read_key l.reader ≡ Some (None, c.next_key.new.self) = grind arith in
    (_, l.invariant.1 _ (members_over c.args.depth l.invariant.0 l.reader c.next_key.new.self over), tt)

pub pass_rest-returns-then-depth-eq0-clause-value :
    goal.pass_rest-returns-then-depth-eq0-clause-value
pass_rest-returns-then-depth-eq0-clause-value t c =
    rw c.in-BeginArray.is (array_deep c.args.depth c.args.reader.now (omega arith))

pub pass_rest-returns-then-depth-eq0-2-clause-value :
    goal.pass_rest-returns-then-depth-eq0-2-clause-value
pass_rest-returns-then-depth-eq0-2-clause-value t c =
    rw c.in-BeginObject.is (object_deep c.args.depth c.args.reader.now (omega arith))

pub pass_rest-returns-in-String-clause-value : goal.pass_rest-returns-in-String-clause-value
pass_rest-returns-in-String-clause-value t c = leaf_read c.args.depth c.args.reader.now c.args.token c.in-String.is

pub pass_rest-returns-in-Some-clause-value : goal.pass_rest-returns-in-Some-clause-value
pass_rest-returns-in-Some-clause-value t c = (
  number (number_view c.in-Some.field-0),
  rw c.in-Number.is
      (number_read c.args.depth c.args.reader.now _ _ c.in-Some.ensures),
  tt,
)

pub pass_rest-returns-in-None-clause-value : goal.pass_rest-returns-in-None-clause-value
pass_rest-returns-in-None-clause-value t c =
    rw c.in-Number.is (number_refused c.args.depth c.args.reader.now _ c.in-None.ensures)

pub pass_rest-returns-in-EndObject-clause-value : goal.pass_rest-returns-in-EndObject-clause-value
pass_rest-returns-in-EndObject-clause-value t c =
    let none : value c.args.depth (token_of c.args.token ∷ c.args.reader.now) ≡ None =
    rw (value_is c.args.depth (token_of c.args.token ∷ c.args.reader.now)) (grind arith) in
    ap (converted of_json) none

pub pass_rest-returns-else-depth-eq0-clause-value :
    goal.pass_rest-returns-else-depth-eq0-clause-value
pass_rest-returns-else-depth-eq0-clause-value t c =
    array_passed c.args.depth c.args.reader.now _ _ _ (ap token_of c.in-BeginArray.is)
    (omega arith) c.pass_items.ensures.value

pub pass_rest-returns-else-depth-eq0-2-clause-value :
    goal.pass_rest-returns-else-depth-eq0-2-clause-value
pass_rest-returns-else-depth-eq0-2-clause-value t c =
    object_passed c.args.depth c.args.reader.now _ _ _ (ap token_of c.in-BeginObject.is)
    (omega arith) c.pass_members.ensures.value
