-- Drops have one list of avalanches, and the limit stops the play of one of them or of none. So the rows that
-- `avalanches` writes are those of the library.
use Rattle.std.proofs.Common.{◌≡◌, ℕ, zero, suc, ◌+◌, ◌<◌, ◌≤◌, eqb, cond, List, [], ◌∷◌, ◌++◌, length, map, take}
use Rattle.std.proofs.Common.{slice_index, refl, sym, ap, ◌∙◌, arith, rules, inl, inr, ⊎_elim, false}
use Rattle.std.proofs.lemmas.Bool.Decides.{nat_tests}
use Rattle.std.proofs.lemmas.List.{get_or_past, take_more, take-take}
use Rattle.std.proofs.lemmas.List.Sums.{sum_by-le, sum_by-take-le}
use Rattle.std.proofs.lemmas.Slice.Zip.{length-zip, get_or-zip}
use Rattle.std.specs.List.{zip}
use mathlib.Core.Logic.{dite}
use native.Mathlib.Decide.{dec_lt}
use Rattle.chip_graph.specs.ChipGame.{ChipGame, IsGame}
use Rattle.chip_graph.specs.More.{HasMore, AreOfVertices, brought_to}
use Rattle.chip_graph.specs.Multigraph.{Multigraph}
use Rattle.chip_sequence.proofs.EndLemmas.{least_action}
use Rattle.chip_sequence.proofs.FiringLemmas.{counts-append, more_chips, sequence-append}
use Rattle.chip_sequence.proofs.StageLemmas.{played_is_stage}
use Rattle.chip_sequence.specs.Firing.{IsStable}
use Rattle.chip_sequence.specs.Play.{IsPlayed}
use Rattle.chip_sequence.specs.declared.outcome.Outcome.{Outcome}
use Rattle.chip_fire.proofs.DropLemmas.{drops_add_up}
use Rattle.chip_fire.specs.Avalanches.{AreAvalanches}
use Rattle.chip_report.specs.ReportText.{is_closed}
use Rattle.chip_command.proofs.OneReportLemmas.{one_game, one_more, same_numbers}
use Rattle.chip_command.specs.Reports.{plain_status}
use Rattle.chip_engine.proofs.DropLemmas.{closes}
use Rattle.chip_engine.specs.AvalanchesCommand.{Closes, DropsComeTo}
use Rattle.chip_engine.specs.DropRows.{rows_text}
use Rattle.chip_library.proofs.DropLemmas.{all_more, outcome_ends, pile_ends, stopped_there}
use Rattle.chip_library.proofs.KeptLemmas.{drops_follow}
use Rattle.chip_library.specs.Drops.{Told, drops_of, AreOn, AreMade, IsStopped, game_of}
use Rattle.chip_library.specs.KeptGames.{KeptGame, IsKept}
use Rattle.chip_library.specs.declared.kept.PileState.TheVariants.{Halted}
use Rattle.chip_agree.specs.Reported.{Agree, AgreeOnAll, AgreeBefore}
use Rattle.chip_agree.proofs.laws.avalanches_agree.Goals as goal

-- ---- plays

-- the chips at the start with drops on vertices
start_is : (g : ChipGame) → IsGame g → (ds : List (ℕ × ℕ)) → AreOfVertices g ds → (more : ChipGame) → HasMore g ds more
    → (u : ℕ) → slice_index more.start u ≡ slice_index g.start u + brought_to ds u
start_is g game ds on more adds u = dite (dec_lt u (length g.start)) (adds.start u) (λ past.
    let none = sum_by-le (λ (d : ℕ × ℕ). cond (eqb d.0 u) d.1 0) 0 ds (λ k d l.
    let inside = on k d l in grind (arith, nat_tests)) in
    grind (arith, get_or_past more.start u 0, get_or_past g.start u 0))

-- ---- lists of drops

-- drops on a position have one list of avalanches
one_told : (G : Multigraph) (x : ℕ → ℕ) (told others : List Told) (y z : ℕ → ℕ) → AreAvalanches G x told y
    → AreAvalanches G x others z → drops_of told ≡ drops_of others → told ≡ others
one_told G x [] [] y z are is same = refl
one_told G x (t ∷ told) (u ∷ others) y z (mid, one, are) (there, two, is) same =
    let first : t.0 ≡ u.0 = cc same in
    let drop = rw first at one in
    let (vs, fires, rests) = two.ends in
    let p = drop.tells vs fires rests in
    let q = two.tells vs fires rests in
    let lost : t.1.lost ≡ u.1.lost = omega arith in
    let avalanche : t.1 ≡ u.1 = rw (p.size ∙ sym q.size, p.extent ∙ sym q.extent, lost) refl in
    let left : mid ≡ there = (λ i v. (drop.leaves vs fires rests v ∙ sym (two.leaves vs fires rests v)) i) in
    let rest = one_told G there told others y z (rw left at are) is (cc same) in λ i. (first i, avalanche i) ∷ rest i
one_told G x _ _ y z are is same = cc same

-- drops are the pairs of their vertices and amounts
pairs : (told : List Told) → drops_of told ≡ zip (map (λ (t : Told). t.0.0) told) (map (λ (t : Told). t.0.1) told)
pairs [] = refl
pairs (t ∷ told) = ap (λ (ds : List (ℕ × ℕ)). t.0 ∷ ds) (pairs told)

-- the drops on these vertices, of these amounts
drops_are : (told : List Told) (at amounts : List ℕ) → AreOn told at amounts → drops_of told ≡ zip at amounts
drops_are told at amounts on = rw (← on.vertices, ← on.chips) (pairs told)

-- the first pairs are those of the first numbers
take_zip : (n : ℕ) (at amounts : List ℕ) → zip (take n at) (take n amounts) ≡ take n (zip at amounts)
take_zip zero at amounts = refl
take_zip (suc n) (v ∷ at) (count ∷ amounts) = cc (take_zip n at amounts)
take_zip (suc n) _ _ = refl

module _ (g : ChipGame) (at amounts : List ℕ) where
  -- the drops
  abbrev ds : List (ℕ × ℕ)
  ds = zip at amounts

  -- the limit stops the game with the first n drops
  abbrev Stops : ℕ → Type 0
  Stops n = (few : ChipGame) × HasMore g (take n ds) few × IsStopped few

  -- these avalanches on an outcome of the game left y
  abbrev Fell : List Told → (ℕ → ℕ) → Type 0
  Fell told y = (o : Outcome) × IsPlayed g o × AreAvalanches g.graph (slice_index o.chips.items) told y

  -- drops on the game have one list of avalanches
  one_fall : (told others : List Told) (y z : ℕ → ℕ) → Fell told y → Fell others z → drops_of told ≡ drops_of others
      → told ≡ others
  one_fall told others y z (o, played, are) (p, also, fall) same =
      let (vs, whole) = played.ends in
      let here : slice_index o.chips.items ≡ slice_index p.chips.items =
      (λ i v. (played.position vs whole v ∙ sym (also.position vs whole v)) i) in
      one_told g.graph _ told others y z (rw here at are) fall same

  -- the limit stopped the game of an outcome that is not closed
  stops : (n : ℕ) (few : ChipGame) → HasMore g (take n ds) few → (o : Outcome) → IsPlayed few o → is_closed o ≡ false
      → Stops n
  stops n few more o played going =
      let (vs, play) = played.ends in
      (few, more, (vs, play, λ ended. cc (closes g _ few o more played (few, more, (vs, play, ended)), going)))

  -- a game that the limit stops is stopped with more drops: a vertex that is legal at the end of its play has fired as
  -- often as the limit allows, and fires once more with more chips
  apart : (m : ℕ) (es : List (ℕ × ℕ)) → take m es ≡ take m ds → Stops m → Closes g es → ⊥
  apart m es first (few, one, (vs, play, going)) (all, two, (ws, whole, ended)) =
      let same = one.same_graph ∙ sym two.same_graph in
      let p = rw (same, one.same_limit ∙ sym two.same_limit) at play in
      let less : (u : ℕ) → slice_index few.start u ≤ slice_index all.start u = (λ u.
      let a = sum_by-take-le (λ (d : ℕ × ℕ). cond (eqb d.0 u) d.1 0) es m in
      let b = rw first at a in
      grind (arith, one.start u, two.start u, get_or_past few.start u 0)) in
      going (rw same (λ v can.
      let once = more_chips all.graph _ _ less _ (sequence-append all.graph vs (v ∷ []) _ p.sequence (can, tt)) in
      let fired = least_action all.graph _ (all.limit + 1) ws whole.sequence (λ u l. absurd (ended u l)) (vs ++ v ∷ [])
      once (λ u. grind (arith, nat_tests, counts-append vs (v ∷ []) u, p.within u)) v in
      let full = p.ended v can in let low = whole.within v in grind (arith, nat_tests, counts-append vs (v ∷ []) v)))

  -- where the limit stops the game, `avalanches` tells no drops
  none_agree : Stops 0 → (rows : List ℕ) (last : ChipGame) (o : Outcome) → DropsComeTo g ds rows last o → IsPlayed last o
      → (rows ≡ rows_text []) × (plain_status o ≡ 2)
  none_agree game rows last o (inl (tells, more)) played = absurd (apart 0 ds refl game tells.0)
  none_agree game rows last o (inr (inl (j, l, tells, more, going))) played = absurd (apart 0 (take j ds) refl game tells.0)
  none_agree game rows last o (inr (inr (text, same, going))) played = (text, rw going refl)

  -- where it stops the play of drop n, `avalanches` tells those before it
  some_agree : (n : ℕ) (told : List Told) (y : ℕ → ℕ) → Stops (n + 1) → Closes g (take n ds) → drops_of told ≡ take n ds
      → Fell told y → (rows : List ℕ) (last : ChipGame) (o : Outcome) → DropsComeTo g ds rows last o → IsPlayed last o
      → (rows ≡ rows_text told) × (plain_status o ≡ 2)
  some_agree n told y stopped rests drops fell rows last o (inl (tells, more)) played =
      absurd (apart (n + 1) ds refl stopped tells.0)
  some_agree n told y stopped rests drops fell rows last o
      (inr (inl (j, l, (rest, p, also, left, (others, named, are, text)), more, going))) played =
      let stop = stops (j + 1) last more o played going in
      let below : n < j → ⊥ = (λ less. apart (n + 1) (take j ds) (take-take (n + 1) j ds (omega arith)) stopped rest) in
      let above : j < n → ⊥ = (λ less. apart (j + 1) (take n ds) (take-take (j + 1) n ds (omega arith)) stop rests) in
      let level : j ≡ n = omega arith in
      let to = named ∙ ap (λ (k : ℕ). take k ds) level ∙ sym drops in
      (text ∙ ap rows_text (one_fall others told left y (p, also, are) fell to), rw going refl)
  some_agree n told y stopped rests drops fell rows last o (inr (inr (text, same, going))) played =
      absurd (apart 0 (take n ds) refl (stops 0 last (rw same (search rules)) o played going) rests)

  module _ (game : IsGame g) (told : List Told) (chips : List ℕ) (each : length chips ≡ g.graph.vertices)
      (on : AreOn told at amounts) (made : AreMade g told (slice_index chips)) where
    -- the limit does not stop the game with all drops
    rest : Closes g ds
    rest = (made.rest.0, rw (← drops_are told at amounts on) made.rest.1, made.rest.3)

    -- the chips that the drops left are those of the game with all of them
    chips_are : (o : Outcome) → IsPlayed made.rest.0 o → chips ≡ o.chips.items
    chips_are o played =
        let (all, more, is, (vs, play, ended)) = made.rest in
        let (q, begun, fall) = made.avalanches in
        let stable : IsStable g.graph (slice_index q.chips.items) = (λ v can. apart 0 ds refl
        (g, search rules, stopped_there g q.chips.items (outcome_ends g q begun) (λ stable. stable v can)) rest) in
        let sums = drops_add_up g.graph game.graph_fits _ _ _ (played_is_stage g q begun) stable told _ fall _
        (start_is g game (drops_of told) made.vertices all more) vs (rw more.same_graph at play.sequence)
        (rw more.same_graph at ended) in
        same_numbers chips o.chips.items (each ∙ sym (rw more.same_graph at played.chips_each))
        (λ v l. sums.1 v ∙ sym (rw more.same_graph at (played.position vs play v)))

    -- where it stops none, `avalanches` tells all drops
    made_agree : (rows : List ℕ) (last : ChipGame) (o : Outcome) → DropsComeTo g ds rows last o → IsPlayed last o
        → (rows ≡ rows_text told) × ((plain_status o ≡ 0) × (chips ≡ o.chips.items))
    made_agree rows last o (inl ((rested, p, also, left, (others, named, are, text)), more)) played =
        let drops = drops_are told at amounts on in
        let same = one_fall others told left _ (p, also, are) made.avalanches (named ∙ sym drops) in
        let is = rw (one_more g ds last made.rest.0 more (rw drops at made.rest.1)) at played in
        (text ∙ ap rows_text same, (rw (closes g ds last o more played rested) refl, chips_are o is))
    made_agree rows last o (inr (inl (j, l, tells, more, going))) played =
        absurd (apart (j + 1) ds refl (stops (j + 1) last more o played going) rest)
    made_agree rows last o (inr (inr (text, same, going))) played =
        absurd (apart 0 ds refl (stops 0 last (rw same (search rules)) o played going) rest)

  -- what holds of all that the drops come to holds of what `avalanches` wrote
  agree : (told : List Told) (IsEnd : Outcome → Type 0) → ((rows : List ℕ) (last : ChipGame) (o : Outcome)
      → DropsComeTo g ds rows last o → IsPlayed last o → (rows ≡ rows_text told) × IsEnd o) → Agree g at amounts told IsEnd
  agree told IsEnd ends limits graph_text chips_text drops_text rows asked report ended means named wrote =
      ⊎_elim (λ none. absurd none) (λ (h, gave, es, gives, fell). ⊎_elim
      (λ (o, (text, last, comes, played, out), answer).
      let same = one_game limits limits _ _ _ h g (gave.means graph_text refl chips_text refl) means in
      let also = rw same at (gives.0 drops_text refl).1 in
      let drops : es ≡ ds = cc in
      let text_is : rows ≡ text = out in
      let end = ends rows last o (rw (same, drops, ← text_is) at comes) played in
      (end.0, o, end.1, answer)) (λ none. absurd none) fell) wrote

  -- a call that made all drops agrees
  agree_made : IsGame g → (told : List Told) (chips : List ℕ) → length chips ≡ g.graph.vertices → AreOn told at amounts
      → AreMade g told (slice_index chips) → AgreeOnAll g at amounts chips told
  agree_made game told chips each on made = (on, agree told _ (made_agree game told chips each on made))

  -- so does one that the limit stopped at the game
  agree_none : (i : ℕ) → i ≡ 0 → IsStopped g → AgreeBefore g at amounts i []
  agree_none i first stopped =
      let on : AreOn [] (take i at) (take i amounts) = rw first (record { vertices = refl; chips = refl }) in
      (sym first, on, agree [] _ (none_agree (g, search rules, stopped)))

  -- and one that it stopped at drop i
  agree_before : (told : List Told) (y : ℕ → ℕ) (i : ℕ) → length told ≡ i → AreMade g told y
      → AreOn told (take i at) (take i amounts) → length amounts ≡ length at → i < length at → (all : ChipGame)
      → HasMore g (drops_of told ++ (slice_index at i, slice_index amounts i) ∷ []) all → IsStopped all
      → AgreeBefore g at amounts i told
  agree_before told y i long made on aligned l all adds stopped =
      let many = length-zip at amounts in
      let drops = drops_are told (take i at) (take i amounts) on ∙ take_zip i at amounts in
      let next = take_more ds i (0, 0) (omega arith) in
      let last = get_or-zip at amounts i (0, 0) l (omega arith) in
      let stops : Stops (i + 1) = (all, rw (next, last, ← drops) adds, stopped) in
      let rests : Closes g (take i ds) = (made.rest.0, rw (← drops) made.rest.1, made.rest.3) in
      (long, on, agree told _ (some_agree i told y stops rests drops made.avalanches))

-- the limit stopped the game of a pile that is halted
halted_there : (k : KeptGame) → IsKept k.pile k.state → k.state ≡ Halted → IsStopped k.pile.game
halted_there k kept is =
    let (pile, legal) = kept.halted is in stopped_there k.pile.game k.pile.chips.items (pile_ends k.pile pile) legal

-- ---- the laws

pub returns-clause-all : goal.returns-clause-all
returns-clause-all c lists limit at amounts old new (aligned, game, each, told, on, tells, made) =
    (told, tells, agree_made (game_of lists limit old) at amounts game told new.chips (each ∙ game.start_fits) on made)

pub returns-clause-stopped : goal.returns-clause-stopped
returns-clause-stopped c lists limit at amounts old new i (same, inl is) = absurd (cc is.0)
returns-clause-stopped c lists limit at amounts old new i (same, inr (inl is)) = absurd is.1
returns-clause-stopped c lists limit at amounts old new i (same, inr (inr (inl is))) = absurd is.2
returns-clause-stopped c lists limit at amounts old new i (same, inr (inr (inr (aligned, game, inl memory)))) =
    absurd (cc memory)
returns-clause-stopped c lists limit at amounts old new i (same, inr (inr (inr (aligned, game, inr (inl (is, stopped)))))) =
    ([], agree_none (game_of lists limit old) at amounts i (cc is) stopped)
returns-clause-stopped c lists limit at amounts old new i
    (same, inr (inr (inr (aligned, game, inr (inr (told, y, made, fault)))))) =
    let (long, l, all, adds, is, stopped) = fault.first in
    let on : AreOn told (take i at) (take i amounts) = rw long fault.drops in (
      told,
      agree_before (game_of lists limit old) at amounts told y i (sym long) made on aligned.rows.amounts_each
          (rw long fault.is_there) all (rw long adds) stopped,
    )

pub returns-clause-kept : goal.returns-clause-kept
returns-clause-kept c g k new at amounts before after begins
    (aligned, told, on, tells, (played, plays, stable, leaves)) =
    let game = plays.0.same_game ∙ begins.start.same_game in
    let each : length new.pile.chips.items ≡ g.graph.vertices =
    rw (← game, ← leaves.game.same_graph) leaves.pile.begun.in_range.chips_each in
    let made = drops_follow g k played begins plays told new.pile leaves in
    (told, tells, agree_made g at amounts begins.is_game told new.pile.chips.items each on made)

pub returns-clause-kept_stopped : goal.returns-clause-kept_stopped
returns-clause-kept_stopped c g k new at amounts before after i begins kept (aligned, falls, inl (first, same, plays)) =
    let stopped = rw (plays.0.same_game ∙ begins.start.same_game) at (halted_there new kept plays.1) in
    ([], same, agree_none g at amounts i first stopped)
returns-clause-kept_stopped c g k new at amounts before after i begins kept
    (aligned, falls, inr (told, mid, (played, plays, stable, leaves), long, l, on, rows, (halted, more))) =
    let adds = rw (plays.0.same_game ∙ begins.start.same_game) at
    (all_more played.pile told mid.pile leaves _ new.pile.game more) in
    let made = drops_follow g k played begins plays told mid.pile leaves in
    let stopped = halted_there new kept halted in
    (told, rows, agree_before g at amounts told _ i long made on aligned.amounts_each l new.pile.game adds stopped)
