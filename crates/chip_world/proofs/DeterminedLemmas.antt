-- Serves Rounds.antt.
-- A turn, a round and a drive are determined by the log before them.
use Rattle.chip_world.proofs.Names.{◌≡◌, ℕ, zero, suc, ◌<◌, ◌≤◌, Bool, true, false, not, eqb, List, [], ◌∷◌, ◌++◌}
use Rattle.chip_world.proofs.Names.{reverse, Option, Some, None, refl, sym, arith, append_assoc}
use Rattle.chip_world.proofs.Names.{reverse_onto, dite, ℕ_discrete, dec_lt, Setting, Part, may_ack_on, head_of, Event, Ack}
use Rattle.chip_world.proofs.Names.{Phase, nothing, either_phase, and_then, seeing, one_step, acknowledging_parent}
use Rattle.chip_world.proofs.Names.{turn, saw, of_turn, legal_before, Log, Step, does, part_in, FitsLog, IsLegalLog}
use Rattle.chip_world.proofs.Names.{Drive, Closed, Unfinished, WorldState, LeadsWorld, NoOtherDrive}
use Rattle.chip_world.proofs.Names.{IsTurnAfter, AreTurns, IsWorldRound, AreOpenRounds, AnswersDrive, IsDrive, IsRootOpen}

module _ (g : Setting) where
  -- each event is legal after the log and those before it
  abbrev Follow : Log → List Step → Type 0
  Follow log [] = Unit {0}
  Follow log (x ∷ xs) = FitsLog g log x × Follow (x ∷ log) xs

  -- the log after them
  abbrev made : Log → List Step → Log
  made log [] = log
  made log (x ∷ xs) = made (x ∷ log) xs

  front_follows : (log : Log) (xs ys : List Step) → Follow log (xs ++ ys) → Follow log xs
  front_follows log [] ys all = tt
  front_follows log (x ∷ xs) ys (fits, all) = (fits, front_follows (x ∷ log) xs ys all)

  back_follows : (log : Log) (xs ys : List Step) → Follow log (xs ++ ys) → Follow (made log xs) ys
  back_follows log [] ys all = all
  back_follows log (x ∷ xs) ys (fits, all) = back_follows (x ∷ log) xs ys all

  follows : (log : Log) (xs : List Step) → IsLegalLog g (reverse xs ++ log) → Follow log xs
  follows log [] legal = tt
  follows log (x ∷ xs) legal =
      let all : IsLegalLog g (reverse xs ++ (x ∷ log)) = rw (reverse_onto xs x [], append_assoc) at legal in
      ((legal_before g (reverse xs) (x ∷ log) all).1, follows (x ∷ log) xs all)

  -- from one part, after one log, such a phase has only one outcome
  abbrev Determined : Phase → Type 0
  Determined p = (log : Log) (s : Part) (ds ds' : List Step) (t t' : Part) → Follow log ds → Follow log ds' → p s ds t
      → p s ds' t' → (ds ≡ ds') × (t ≡ t')

  by_nothing : Determined nothing
  by_nothing log s ds ds' t t' f f' (none, same) (none', same') = (cc, cc)

  by_then : (p q : Phase) → Determined p → Determined q → Determined (and_then p q)
  by_then p q one other log s ds ds' t t' f f' (front, m, back, is, here, rest) (front', m', back', is', here', rest') =
      let all = rw is at f in
      let all' = rw is' at f' in
      let a = one log s front front' m m' (front_follows log front back all)
      (front_follows log front' back' all') here here' in
      let b = other (made log front) m back back' t t' (back_follows log front back all)
      (rw a.0 (back_follows log front' back' all')) rest (rw a.1 rest') in
      (cc, b.1)

  module _ (v : ℕ) where
    by_seeing : (x : Event) (next : ℕ → Part → Phase) → ((seen : ℕ) (s : Part) → Determined (next seen s))
        → Determined (seeing g v x next)
    by_seeing x next more log s ds ds' t t' f f' (seen, rest, is, after) (seen', rest', is', after') =
        let all = rw is at f in
        let all' = rw is' at f' in
        let same : seen ≡ seen' = cc (all.0.1, all'.0.1) in
        let b = more seen s (saw x seen ∷ log) (does g (saw x seen) s) rest rest' t t' all.1 (rw same all'.1) after
        (rw same after') in
        (rw (is, is', same, b.0), b.1)

    by_parent : (parent : Option ℕ) → Determined (acknowledging_parent g v parent)
    by_parent None log s = by_nothing log s
    by_parent (Some e) log s = either (not (eqb (may_ack_on g (head_of g e) s e) 0)) log s
      where
        either : (b : Bool) → Determined (either_phase b (one_step g v (Ack e)) nothing)
        either true = by_seeing (Ack e) (λ seen before. nothing) (λ seen before. by_nothing)
        either false = by_nothing

    by_turn : Determined (turn g v)
    by_turn = of_turn g v Determined record {
      none = by_nothing;
      chosen = λ p all log s. all s log s;
      both = by_then;
      event = λ x mine next more. by_seeing x next more;
      last = λ log s. by_parent s.parent log s;
    }

    turn_determined : (before after after' : Log) → IsTurnAfter g v before after → IsTurnAfter g v before after'
        → after ≡ after'
    turn_determined before after after' one other =
        let same = by_turn before (part_in g before v) one.operations other.operations one.are_turn.0 other.are_turn.0
        (follows before one.operations (rw one.all_made at one.all_fit))
        (follows before other.operations (rw other.all_made at other.all_fit)) one.are_turn.1 other.are_turn.1 in
        cc

  turns_determined : (n : ℕ) (before after after' : Log) → AreTurns g n before after → AreTurns g n before after'
      → after ≡ after'
  turns_determined zero before after after' one other = cc
  turns_determined (suc v) before after after' (m, firsts, last) (m', firsts', last') =
      turn_determined v m' after after' (rw (turns_determined v before m m' firsts firsts') at last) last'

  round_determined : (before after after' : Log) → IsWorldRound g before after → IsWorldRound g before after' → after ≡ after'
  round_determined before after after' (m, turns, settled) (m', turns', settled') =
      let same = turns_determined g.game.graph.vertices before m m' turns turns' in cc

  rounds_determined : (n : ℕ) (before after after' : Log) → AreOpenRounds g n before after → AreOpenRounds g n before after'
      → after ≡ after'
  rounds_determined zero before after after' one other = cc
  rounds_determined (suc n) before after after' (m, firsts, is_open, last) (m', firsts', is_open', last') =
      round_determined m' after after' (rw (rounds_determined n before m m' firsts firsts') at last) last'

  -- the root is open after fewer rounds
  open_earlier : (n k : ℕ) → n < k → (before after after' : Log) → AreOpenRounds g n before after
      → AreOpenRounds g k before after' → IsRootOpen g after
  open_earlier n zero l before after after' one other = absurd (omega arith)
  open_earlier n (suc k) l before after after' one (m, firsts, is_open, last) = dite (ℕ_discrete n k)
      (λ same. rw (rounds_determined k before after m (rw same at one) firsts) is_open)
      (λ other. open_earlier n k (omega arith) before after m one firsts)

  -- no drive ends where another goes on
  ends_last : (rounds n k : ℕ) (after : Log) (result : Drive) → n < k → k ≤ rounds → IsRootOpen g after
      → AnswersDrive g rounds n after result → ⊥
  ends_last rounds n k after Closed l within is_open answers = is_open answers
  ends_last rounds n k after (Unfinished told) l within is_open (told_is, all, still) = absurd (omega arith)

  same_answer : (rounds n k : ℕ) (after : Log) (result result' : Drive) → AnswersDrive g rounds n after result
      → AnswersDrive g rounds k after result' → result ≡ result'
  same_answer rounds n k after Closed Closed one other = refl
  same_answer rounds n k after Closed (Unfinished told) one (told_is, all, still) = absurd (still one)
  same_answer rounds n k after (Unfinished told) Closed (told_is, all, still) other = absurd (still other)
  same_answer rounds n k after (Unfinished told) (Unfinished told') (told_is, all, still) (told_is', all', still') =
      cc

  pub drive_determined : (rounds : ℕ) (before after after' : Log) (result result' : Drive)
      → IsDrive g rounds before after result → IsDrive g rounds before after' result'
      → (after ≡ after') × (result ≡ result')
  drive_determined rounds before after after' result result' one other = dite (ℕ_discrete one.count other.count)
      (λ same.
      let ends = rounds_determined other.count before after after' (rw same at one.are_rounds) other.are_rounds in
      (ends, same_answer rounds one.count other.count after' result result' (rw ends at one.answers) other.answers))
      (λ differ. dite (dec_lt one.count other.count)
      (λ l. absurd (ends_last rounds one.count other.count after result l other.within
      (open_earlier one.count other.count l before after after' one.are_rounds other.are_rounds) one.answers))
      (λ n. (let l : other.count < one.count = omega arith in
      absurd (ends_last rounds other.count one.count after' result' l one.within
      (open_earlier other.count one.count l before after' after other.are_rounds one.are_rounds) other.answers))))

-- a world that one drive leads to is the one that every drive leads to
pub no_other : (old new : WorldState) (rounds : ℕ) (result : Drive)
    → LeadsWorld old new (λ g before after. IsDrive g rounds before after result) → NoOtherDrive old new rounds result
no_other old new rounds result leads = λ g before stands after answer drive.
    let own = leads g before stands in
    let same = drive_determined g rounds before own.0 after result answer own.2 drive in
    (rw same.0 at own.1, sym same.1)
