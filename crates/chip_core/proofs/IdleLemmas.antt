-- Serves Work.antt, Core.antt.
-- A step that doesn't count changes only the notes of parts, the seals and the end.
use Rattle.chip_core.proofs.Names.{nat_tests, ◌≡◌, ◌≢◌, ℕ, ◌+◌, ◌-◌, ◌≤◌, Bool, true, false, cond, eqb, ltb, [], ◌∷◌}
use Rattle.chip_core.proofs.Names.{◌++◌, None, refl, ap, ◌∙◌, arith, true≢false, dite, ℕ_discrete, cond_yes}
use Rattle.chip_core.proofs.Names.{cond_no, Tail, claims_of, after_clear, after_claim, Setting, is_sent, Got}
use Rattle.chip_core.proofs.Names.{Sent, Empty, Sealed, message_of, saw, at_edge, idle_take, Log, Step, Event, Take}
use Rattle.chip_core.proofs.Names.{Clear, Claim, Settle, Seal, Read, Feed, End, Part, part_of, does, part_in, root_edge}
use Rattle.chip_core.proofs.Names.{acting_part, counts_as_work, work_in, ltb-false, Message}

-- what a tail sent, without its notes
abbrev pub bare_link : Tail → Tail
bare_link t = record t { clear = false; refused = false }

-- a part without its notes, its seals and the end
abbrev pub bare : Part → Part
bare s = record s {
  out = λ e. record (s.out e) { link = bare_link (s.out e).link };
  stop = λ e. None;
  ended = false;
}

module _ (g : Setting) where
  -- only the tail of one edge is changed, and only its notes
  notes_leave : (e : ℕ) (s : Part) (link : ℕ → Tail) → bare_link (link e) ≡ bare_link (s.out e).link
      → ◌≡◌ {A = ℕ → Tail} (λ i. bare_link (cond (eqb e i) (link i) (s.out i).link)) (λ i. bare_link (s.out i).link)
  notes_leave e s link same = λ j i. at_edge (λ i (t : Tail). bare_link t ≡ bare_link (s.out i).link) e link
      (λ i. (s.out i).link) same (λ i. refl) i j

  -- nothing that is settled is new
  settle_bare : (e seen : ℕ) (s : Part) (ended : Bool) → ltb 0 (seen - (s.out e).settled) ≡ false
      → bare (let t : Part = record s {
        out = λ i. record (s.out i) {
          settled = cond (eqb e i) ((s.out i).settled + (seen - (s.out i).settled)) (s.out i).settled;
        };
        ended = ended;
      } in t) ≡ bare s
  settle_bare e seen s ended idle =
      let none = ltb-false 0 (seen - (s.out e).settled) idle in
      let same : (i : ℕ) → cond (eqb e i) ((s.out i).settled + (seen - (s.out i).settled)) (s.out i).settled
      ≡ (s.out i).settled = at_edge (λ i (n : ℕ). n ≡ (s.out i).settled) e
      (λ i. (s.out i).settled + (seen - (s.out i).settled)) (λ i. (s.out i).settled) (omega arith) (λ i. refl) in
      λ j. record (bare s) { out = λ i. record (s.out i) { link = bare_link (s.out i).link; settled = same i j } }

  -- a claim or a feed of these counts is accepted, or refused, which changes only notes of the link
  claim_bare : (e seen : ℕ) (count : ℕ → ℕ) (s : Part) (m : Message)
      → is_sent (cond (eqb seen (claims_of (s.out e).link)) (Sent m) Sealed) ≡ false
      → (seen ≢ claims_of (s.out e).link)
      × (◌≡◌ {A = ℕ → Tail} (λ i. bare_link (cond (eqb e i) (after_claim (count i) seen (s.out i).link) (s.out i).link))
      (λ i. bare_link (s.out i).link))
  claim_bare e seen count s m idle = dite (ℕ_discrete seen (claims_of (s.out e).link))
      (λ hit. absurd (true≢false (let a = cond_yes seen (claims_of (s.out e).link) (Sent m) Sealed hit in cc)))
      (λ miss. (
        miss,
        notes_leave e s (λ i. after_claim (count i) seen (s.out i).link)
            (ap bare_link (cond_no seen (claims_of (s.out e).link) _ (record (s.out e).link { clear = false; refused = true }) miss)),
      ))

  -- a step that doesn't count leaves its part except for these
  pub idle_does : (x : Event) (seen : ℕ) (s : Part) → counts_as_work g s (saw x seen) ≡ false
      → bare (does g (saw x seen) s) ≡ bare s
  idle_does (Take e) seen s idle = dite (ℕ_discrete seen 0)
      (λ none. ap bare (idle_take g e seen s none))
      (λ some. absurd (true≢false (let a = cond_no seen 0 Empty (Got (message_of e (Rattle.std.proofs.Common.length
      (s.into e).got) seen)) some in cc)))
  idle_does (Clear e) seen s idle =
      let links = notes_leave e s (λ i. after_clear seen (s.out i).link) refl in
      λ j. record (bare s) { out = λ i. record (s.out i) { link = links j i } }
  idle_does (Claim e) seen s idle =
      let both = claim_bare e seen (λ i. (s.out i).pending) s (message_of e (claims_of (s.out e).link) (s.out e).pending) idle in
      let pends : (i : ℕ) → cond (eqb e i) (cond (eqb seen (claims_of (s.out i).link)) 0 (s.out i).pending)
      (s.out i).pending ≡ (s.out i).pending = at_edge (λ i (n : ℕ). n ≡ (s.out i).pending) e
      (λ i. cond (eqb seen (claims_of (s.out i).link)) 0 (s.out i).pending) (λ i. (s.out i).pending)
      (cond_no seen (claims_of (s.out e).link) 0 (s.out e).pending both.0) (λ i. refl) in
      λ j. record (bare s) { out = λ i. record (s.out i) { link = both.1 j i; pending = pends i j } }
  idle_does (Settle e) seen s idle = settle_bare e seen s s.ended idle
  idle_does (Seal e) seen s idle = refl
  idle_does (Read v) seen s idle = refl
  idle_does (Feed e k) seen s idle =
      let both = claim_bare e seen (λ i. k) s (message_of e (claims_of (s.out e).link) k) idle in
      λ j. record (bare s) { out = λ i. record (s.out i) { link = both.1 j i } }
  idle_does End seen s idle = settle_bare (root_edge g 0) seen s true idle
  idle_does _ seen s idle = absurd (true≢false idle)

  -- two logs leave the same parts except for these
  abbrev pub Alike : Log → Log → Type 0
  Alike a b = (p : ℕ) → bare (part_in g a p) ≡ bare (part_in g b p)

  abbrev pub counts_here : Log → Step → Bool
  counts_here log x = counts_as_work g (acting_part g log x.event) x

  pub idle_alike : (x : Step) (log : Log) → counts_here log x ≡ false → Alike (x ∷ log) log
  idle_alike x log idle = at_edge (λ p (s : Part). bare s ≡ bare (part_in g log p)) (part_of g x.event)
      (λ p. does g x (part_in g log p)) (part_in g log) (idle_does x.event x.seen (acting_part g log x.event) idle)
      (λ p. refl)

  pub one_more : (b : Bool) (n m : ℕ) → cond b 1 0 + n ≡ m → m ≤ n → b ≡ false
  one_more b n m is le = grind (arith, nat_tests)

  pub work_grows : (xs log : Log) → work_in g log ≤ work_in g (xs ++ log)
  work_grows [] log = omega arith
  work_grows (x ∷ xs) log = let a = work_grows xs log in omega arith

  -- steps of which none counts
  pub idle_stretch : (xs log : Log) → work_in g (xs ++ log) ≡ work_in g log → Alike (xs ++ log) log
  idle_stretch [] log none p = refl
  idle_stretch (x ∷ xs) log none p =
      let a = work_grows xs log in
      let idle = one_more (counts_here (xs ++ log) x) (work_in g (xs ++ log)) (work_in g log) none a in
      let same : work_in g (xs ++ log) ≡ work_in g log = omega arith in
      idle_alike x (xs ++ log) idle p ∙ idle_stretch xs log same p
