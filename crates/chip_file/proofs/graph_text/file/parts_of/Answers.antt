use Rattle.chip_file.proofs.JsonNames.{◌≡◌, Some, None, arith, read_key, read_key-shorter, put}
use Rattle.chip_file.proofs.Turns.{members_over, key_refused, member_read, member_refused}
use Rattle.chip_file.proofs.Standing.{or_refused}
use Rattle.chip_file.proofs.graph_text.file.parts_of.Goals as goal

pub members-init : goal.members-init
members-init c = λ old stands. (old, (λ what e. e), stands)

pub returns-in_err-name : goal.returns-in_err-name
returns-in_err-name c = λ old stands.
    let l = c.members in
    let known = l.invariant old stands in
    let refused : read_key l.reader ≡ None = grind arith in
    let none = known.1 None (key_refused c.args.depth known.0 l.reader refused) in
    grind (arith, none)

pub members-preserved : goal.members-preserved
members-preserved c = λ old stands.
    let l = c.members in
    let known = l.invariant old stands in
    let k = c.in-Some.name.now in
    let s = c.next_key.new.self in
    let named : read_key l.reader ≡ Some (Some k, s) = grind arith in
    let done = c.in_ok-take.ensures in
    let d = done.value.0 in
    let r = c.take.new.reader in
    let less = read_key-shorter l.reader (Some k) s named in
    let lesser = done.shorter in (
      put k d known.0,
      (λ what later. known.1 what (member_read c.args.depth known.0 k l.reader s r d named done.value.1
          (omega arith) what later)),
      done.value.2 known.0 known.2,
    )

pub returns-in_err-take : goal.returns-in_err-take
returns-in_err-take c = λ old stands.
    let l = c.members in
    let known = l.invariant old stands in
    let k = c.in-Some.name.now in
    let s = c.next_key.new.self in
    let named : read_key l.reader ≡ Some (Some k, s) = grind arith in
    let stopped = or_refused c.in_err-take.ensures.value
    (λ none. known.1 None (member_refused c.args.depth known.0 k l.reader s named none)) in
    grind (arith, stopped)

pub returns : goal.returns
returns c = λ old stands.
    let l = c.members in
    let known = l.invariant old stands in
    let over : read_key l.reader ≡ Some (None, c.next_key.new.self) = grind arith in
    (known.0, known.1 _ (members_over c.args.depth known.0 l.reader c.next_key.new.self over), known.2)
