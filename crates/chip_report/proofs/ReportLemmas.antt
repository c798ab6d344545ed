-- Serves ReportText.antt, Reportable.antt, OutcomeParts.antt, ReportLists.antt, ReportTwo.antt, Versions.antt.
-- What the reports of both versions say, and which bytes are none.
use Rattle.chip_report.proofs.Names.{◌≡◌, ◌≢◌, ℕ, ◌<◌, ◌≤◌, Bool, true, false, List, [], ◌∷◌, ◌++◌, length, get_or}
use Rattle.chip_report.proofs.Names.{codes, Result, Ok, Err, inl, inr, refl, sym, ap, ◌∙◌, subst, arith, append_assoc}
use Rattle.chip_report.proofs.Names.{replicate, rules, ◌⊎◌, ◌&&◌, All, IsUtf8, IsErrAnd, AllByRecursion, false≢true}
use Rattle.chip_report.proofs.Names.{IsUtf8-from_ascii, length-replicate, All-replicate, Outcome, Resumed, IsOutcome}
use Rattle.chip_report.proofs.Names.{IsResumed, max_prior, SizeLimits, max_limit, max_total, max_vertices, AreReportCounts}
use Rattle.chip_report.proofs.Names.{AreHalted, bool_text, array_text, is_empty, is_closed, RoundTrip, Content, content}
use Rattle.chip_report.proofs.Names.{IsReportOf, GrowsForALine, GivesReport, list_at, text_after_lists}
use Rattle.chip_report.proofs.Names.{AreReportNumbers, HasNoList}
use Rattle.chip_report.proofs.Names.{IsReportIn, IsNoReportIn, IsToldBy, content_by_text, text_in, ReportFault}
use Rattle.chip_report.specs.ReportText.{report_text}
use Rattle.chip_report.specs.ReportTwo.{IsReportTwoOf, StageContent, stage_content}
use Rattle.chip_report.specs.declared.fault.ReportFault.TheVariants as fault
use Rattle.chip_report.proofs.BracketLemmas.{Part, IsPart, text_of, is_plain, list_at-text_of, not_HasNoList}
use Rattle.chip_report.proofs.BracketLemmas.{ascii_plain, ascii_text_of}
use Rattle.chip_report.proofs.ListLemmas.{few_below}

-- ---- a report in parts

-- whether no vertex halted
abbrev closed_of : Content → Bool
closed_of t = is_empty t.over && is_empty t.sealed

abbrev closed_front : Bool → List ℕ
closed_front closed = codes ",\"closed\":" ++ bool_text closed ++ codes ",\"fired\":"

-- the lists after the vertices that are over
abbrev last_parts : Bool → StageContent → List Part
last_parts true t = (codes ",\"prior\":", t.prior) ∷ (codes ",\"sealed\":", t.last.sealed) ∷ []
last_parts false t = (codes ",\"sealed\":", t.last.sealed) ∷ []

abbrev parts : Bool → StageContent → List Part
parts went_on t =
    (codes "{\"chips\":", t.last.chips) ∷ (closed_front (closed_of t.last), t.last.fired)
    ∷ (codes ",\"over\":", t.last.over) ∷ last_parts went_on t

-- what a report ends in
abbrev pub version : Bool → List ℕ
version true = codes ",\"version\":2}\n"
version false = codes ",\"version\":1}\n"

-- the report of a stage with these numbers
abbrev text_by_content : Bool → StageContent → List ℕ
text_by_content went_on t = text_of (parts went_on t) (version went_on)

regroup : (a b c d e f g h i j k : List ℕ)
    → a ++ b ++ c ++ d ++ e ++ f ++ g ++ h ++ i ++ j ++ k
    ≡ a ++ (b ++ ((c ++ d ++ e) ++ (f ++ (g ++ (h ++ (i ++ (j ++ k)))))))
regroup a b c d e f g h i j k = simp append_assoc

regroup_two : (a b c d e f g h i j k l m : List ℕ)
    → a ++ b ++ c ++ d ++ e ++ f ++ g ++ h ++ i ++ j ++ k ++ l ++ m
    ≡ a ++ (b ++ ((c ++ d ++ e) ++ (f ++ (g ++ (h ++ (i ++ (j ++ (k ++ (l ++ m)))))))))
regroup_two a b c d e f g h i j k l m = simp append_assoc

-- the numbers of a first stage, whose report says nothing of those before
abbrev pub first_content : Outcome → StageContent
first_content o = record { last = content o; prior = replicate (length o.fired.items) 0 }

in_parts_one : (o : Outcome) → report_text o ≡ text_by_content false (first_content o)
in_parts_one o =
    regroup (codes "{\"chips\":") (array_text o.chips.items) (codes ",\"closed\":") (bool_text (is_closed o))
    (codes ",\"fired\":") (array_text o.fired.items)
    (codes ",\"over\":") (array_text o.over.items) (codes ",\"sealed\":") (array_text o.sealed.items)
    (codes ",\"version\":1}\n")

in_parts : (went_on : Bool) (r : Resumed) → text_in went_on r ≡ text_by_content went_on (stage_content r)
in_parts true r =
    regroup_two (codes "{\"chips\":") (array_text r.outcome.chips.items) (codes ",\"closed\":")
    (bool_text (is_closed r.outcome)) (codes ",\"fired\":") (array_text r.outcome.fired.items)
    (codes ",\"over\":") (array_text r.outcome.over.items) (codes ",\"prior\":") (array_text r.prior.items)
    (codes ",\"sealed\":") (array_text r.outcome.sealed.items) (codes ",\"version\":2}\n")
in_parts false r = in_parts_one r.outcome

-- ---- numbers in range

-- the numbers are those of an outcome that a game can have
abbrev AreOfOutcome : Content → Type 0
AreOfOutcome t =
    AreReportCounts t.fired (length t.fired) max_limit × AreReportCounts t.chips (length t.fired) max_total
    × AreHalted t.over t.sealed (length t.fired)

-- the numbers are those of a stage
abbrev AreOfStage : StageContent → Type 0
AreOfStage t = AreOfOutcome t.last × (length t.prior ≡ length t.last.fired) × All (λ n. n ≤ max_prior) t.prior

outcome_then : (o : Outcome) → IsOutcome o → AreOfOutcome (content o)
outcome_then o h = search rules

outcome_if : (o : Outcome) → AreOfOutcome (content o) → IsOutcome o
outcome_if o h = search rules

pub outcome_by_counts : (o : Outcome) (vertices : ℕ) → AreReportCounts o.fired.items vertices max_limit
    → AreReportCounts o.chips.items vertices max_total → AreHalted o.over.items o.sealed.items vertices → IsOutcome o
outcome_by_counts o vertices fired chips halted =
    outcome_if o
    (subst
    (λ (n : ℕ). AreReportCounts o.fired.items n max_limit × AreReportCounts o.chips.items n max_total
    × AreHalted o.over.items o.sealed.items n)
    (sym fired.0) (fired, chips, halted))

pub halted_of_outcome : (o : Outcome) (vertices : ℕ) → length o.fired.items ≡ vertices → IsOutcome o
    → AreHalted o.over.items o.sealed.items vertices
halted_of_outcome o vertices e h = rw e at (outcome_then o h).2

stage_then : (r : Resumed) → IsResumed r → AreOfStage (stage_content r)
stage_then r h = (outcome_then r.outcome h.outcome_fits, h.prior_each, h.few_before)

stage_if : (r : Resumed) → AreOfStage (stage_content r) → IsResumed r
stage_if r h = record { outcome_fits = outcome_if r.outcome h.0; prior_each = h.1; few_before = h.2 }

-- ---- the lists that such numbers make

-- numbers that a report lists, at most `most` of each kind
pub record AreListedAll (most : ℕ) (t : StageContent) : Type 0 where
  pub fired : AreReportNumbers most t.last.fired
  pub chips : AreReportNumbers most t.last.chips
  pub over : AreReportNumbers most t.last.over
  pub prior : AreReportNumbers most t.prior
  pub sealed : AreReportNumbers most t.last.sealed

listed : (most : ℕ) (t : StageContent) → AreOfStage t → length t.last.fired ≤ most → AreListedAll most t
listed most t h few =
    let below : length t.last.fired ≤ max_vertices = h.0.0.2 in
    let over = few_below t.last.over (length t.last.fired) h.0.2.0.0 h.0.2.0.1 in
    let sealed = few_below t.last.sealed (length t.last.fired) h.0.2.1.0 h.0.2.1.1 in
    record {
      fired = (few, λ k d l. let low = h.0.0.3 k d l in omega arith);
      chips = (omega (arith, h.0.1.0), λ k d l. let low = h.0.1.3 k d l in omega arith);
      over = (omega arith, λ k d l. let low = h.0.2.0.1 k d l in omega arith);
      prior = (omega (arith, h.1), λ k d l. let low = h.2 k d l in omega arith);
      sealed = (omega arith, λ k d l. let low = h.0.2.1.1 k d l in omega arith);
    }

plain_closed : (closed : Bool) → is_plain (closed_front closed) ≡ true
plain_closed closed = grind arith

plain_version : (went_on : Bool) → is_plain (version went_on) ≡ true
plain_version went_on = grind arith

last_are_parts : (went_on : Bool) (most : ℕ) (t : StageContent) → AreListedAll most t
    → AllByRecursion (IsPart most) (last_parts went_on t)
last_are_parts true most t h =
    (record { plain = refl; listed = h.prior }, (record { plain = refl; listed = h.sealed }, tt))
last_are_parts false most t h = (record { plain = refl; listed = h.sealed }, tt)

are_parts : (went_on : Bool) (most : ℕ) (t : StageContent) → AreOfStage t → length t.last.fired ≤ most
    → AllByRecursion (IsPart most) (parts went_on t)
are_parts went_on most t h few =
    let are = listed most t h few in (
      record { plain = refl; listed = are.chips },
      (
        record { plain = plain_closed (closed_of t.last); listed = are.fired },
        (record { plain = refl; listed = are.over }, last_are_parts went_on most t are),
      ),
    )

-- ---- what a report says

-- the bytes are the report of these numbers
pub record IsReportBy (went_on : Bool) (bytes : List ℕ) (t : StageContent) : Type 0 where
  pub in_range : AreOfStage t
  pub spelled : bytes ≡ text_by_content went_on t
  pub first : went_on ≡ false → t.prior ≡ replicate (length t.last.fired) 0

pub by_outcome : (bytes : List ℕ) (o : Outcome) → IsReportOf bytes o → IsReportBy false bytes (first_content o)
by_outcome bytes o is = record {
  in_range = (
    outcome_then o is.reportable,
    length-replicate (length o.fired.items) 0,
    All-replicate (λ n. n ≤ max_prior) (length o.fired.items) 0 (omega arith),
  );
  spelled = is.spelled ∙ in_parts_one o;
  first = λ _. refl;
}

pub by_stage : (bytes : List ℕ) (r : Resumed) → IsReportTwoOf bytes r → IsReportBy true bytes (stage_content r)
by_stage bytes r is = record {
  in_range = stage_then r is.reportable;
  spelled = is.spelled ∙ in_parts true r;
  first = λ e. absurd (false≢true (sym e));
}

list_in : (went_on : Bool) (bytes : List ℕ) (t : StageContent) → IsReportBy went_on bytes t → (k : ℕ)
    → k < length (parts went_on t) → list_at k bytes ≡ (get_or (parts went_on t) k ([], [])).1
list_in went_on bytes t is k l =
    ap (list_at k) is.spelled
    ∙ list_at-text_of max_vertices (parts went_on t) (version went_on)
    (are_parts went_on max_vertices t is.in_range is.in_range.0.0.2) k l

tells : (went_on : Bool) (bytes : List ℕ) (t : StageContent) → IsReportBy went_on bytes t
    → content_by_text went_on bytes ≡ t
tells true bytes t is =
    let list = list_in true bytes t is in
    let fired = list 1 (omega arith) in let chips = list 0 (omega arith) in let over = list 2 (omega arith) in
    let seals = list 4 (omega arith) in let prior = list 3 (omega arith) in
    λ i. record { last = record { fired = fired i; chips = chips i; over = over i; sealed = seals i }; prior = prior i }
tells false bytes t is =
    let list = list_in false bytes t is in
    let fired = list 1 (omega arith) in let chips = list 0 (omega arith) in let over = list 2 (omega arith) in
    let seals = list 3 (omega arith) in
    let prior = (λ i. replicate (length (fired i)) 0) ∙ sym (is.first refl) in
    λ i. record { last = record { fired = fired i; chips = chips i; over = over i; sealed = seals i }; prior = prior i }

pub that_stage : (went_on : Bool) (limits : SizeLimits) (bytes : List ℕ) (r : Resumed)
    → IsToldBy went_on limits bytes r → IsResumed r → bytes ≡ text_in went_on r → IsReportIn went_on limits bytes r
that_stage true limits bytes r told h e = (record { reportable = h; spelled = e }, told.1)
that_stage false limits bytes r told h e = (
  (record { reportable = h.outcome_fits; spelled = e }, told.1),
  ap (λ (t : StageContent). t.prior) told.0
      ∙ ap (λ (t : StageContent). replicate (length t.last.fired) 0) (sym told.0),
)

-- ---- bytes that are no report

none_in : (went_on : Bool) (limits : SizeLimits) (bytes : List ℕ)
    → ((t : StageContent) → IsReportBy went_on bytes t → length t.last.fired ≤ limits.vertices → ⊥)
    → IsNoReportIn went_on limits bytes
none_in true limits bytes none = λ r is. none (stage_content r) (by_stage bytes r is.0) is.1
none_in false limits bytes none = λ o is. none (first_content o) (by_outcome bytes o is.0) is.1

text_ends : (ps : List Part) (end : List ℕ) → (front : List ℕ) × (text_of ps end ≡ front ++ end)
text_ends [] end = ([], refl)
text_ends (part ∷ ps) end =
    let rest = text_ends ps end in
    let array : List ℕ = array_text part.1 in (
      part.0 ++ (array ++ rest.0),
      rw rest.1 (sym (append_assoc part.0 (array ++ rest.0) end ∙ rw append_assoc)),
    )

pub report_ends : (went_on : Bool) (bytes : List ℕ) (t : StageContent) → IsReportBy went_on bytes t
    → (front : List ℕ) × (bytes ≡ front ++ version went_on)
report_ends went_on bytes t is =
    let end = text_ends (parts went_on t) (version went_on) in (end.0, is.spelled ∙ end.1)

version_ends : (went_on : Bool) → (front : List ℕ) × (version went_on ≡ front ++ 10 ∷ [])
version_ends true = (codes ",\"version\":2}", refl)
version_ends false = (codes ",\"version\":1}", refl)

pub none_without_newline : (went_on : Bool) (limits : SizeLimits) (bytes : List ℕ)
    → ((front : List ℕ) → bytes ≢ front ++ 10 ∷ []) → IsNoReportIn went_on limits bytes
none_without_newline went_on limits bytes none = none_in went_on limits bytes (λ t is fits.
    let end = report_ends went_on bytes t is in
    let last = version_ends went_on in
    none (end.0 ++ last.0) (end.1 ∙ ap (λ (v : List ℕ). end.0 ++ v) last.1 ∙ sym (append_assoc end.0 last.0 (10 ∷ []))))

pub none_without_utf8 : (went_on : Bool) (limits : SizeLimits) (bytes : List ℕ) → (IsUtf8 bytes → ⊥)
    → IsNoReportIn went_on limits bytes
none_without_utf8 went_on limits bytes none = none_in went_on limits bytes (λ t is fits.
    none (rw is.spelled
    (IsUtf8-from_ascii (text_by_content went_on t)
    (ascii_text_of max_vertices (parts went_on t) (version went_on)
    (are_parts went_on max_vertices t is.in_range is.in_range.0.0.2)
    (ascii_plain (version went_on) (plain_version went_on))))))

-- how many lists a report has
abbrev pub lists_in : Bool → ℕ
lists_in true = 5
lists_in false = 4

pub has_four : (went_on : Bool) (k : ℕ) → k < 4 → k < lists_in went_on
has_four went_on k l = grind arith

as_many : (went_on : Bool) (t : StageContent) → length (parts went_on t) ≡ lists_in went_on
as_many went_on t = grind arith

none_without_list : (went_on : Bool) (limits : SizeLimits) (bytes : List ℕ) (k : ℕ) → k < lists_in went_on
    → HasNoList limits.vertices (text_after_lists k bytes) → IsNoReportIn went_on limits bytes
none_without_list went_on limits bytes k l none = none_in went_on limits bytes (λ t is fits.
    not_HasNoList limits.vertices (parts went_on t) (version went_on)
    (are_parts went_on limits.vertices t is.in_range fits) k (rw (as_many went_on t) l) (rw is.spelled at none))

pub not_that_stage : (went_on : Bool) (limits : SizeLimits) (bytes : List ℕ) (found : Resumed)
    → stage_content found ≡ content_by_text went_on bytes → (IsResumed found → bytes ≡ text_in went_on found → ⊥)
    → IsNoReportIn went_on limits bytes
not_that_stage went_on limits bytes found e none = none_in went_on limits bytes (λ t is fits.
    let same : t ≡ stage_content found = sym (e ∙ tells went_on bytes t is) in
    none (stage_if found (rw same at is.in_range))
    (is.spelled ∙ ap (text_by_content went_on) same ∙ sym (in_parts went_on found)))

-- ---- results that are passed on

-- what a call refuses is refused for the same reason
pub passed_on : {T P Q : Type 0} (IsRight : T → Type 0) (result : Result T ReportFault) (f : ReportFault)
    → IsErrAnd result (λ e. e ≡ f) → (f ≡ fault.NoMemory) ⊎ ((f ≡ fault.NotReport) × P) → (P → Q)
    → GivesReport IsRight Q result
passed_on IsRight (Ok x) f is why then = absurd is
passed_on IsRight (Err g) f is (inl memory) then = inl (is ∙ memory)
passed_on IsRight (Err g) f is (inr none) then = inr (is ∙ none.0, then none.1)

-- a list that is not taken of a text, at the place of one of a report
pub none_taken : (went_on : Bool) (limits : SizeLimits) (text : List ℕ) (most k : ℕ) → most ≡ limits.vertices
    → k < lists_in went_on → (rest : List ℕ) → rest ≡ text_after_lists k text
    → (result : Result Resumed ReportFault) (f : ReportFault) → IsErrAnd result (λ e. e ≡ f)
    → (f ≡ fault.NoMemory) ⊎ ((f ≡ fault.NotReport) × HasNoList most rest)
    → GivesReport (IsToldBy went_on limits text) (IsNoReportIn went_on limits text) result
none_taken went_on limits text most k same l rest at result f is why =
    passed_on (IsToldBy went_on limits text) result f is why (λ none.
    none_without_list went_on limits text k l (rw (same, at) at none))

-- bytes that end in a newline
pub of_a_line : {T : Type 0} (bytes json : List ℕ) → bytes ≡ json ++ 10 ∷ [] → (result : Result T ReportFault)
    → GrowsForALine bytes result
of_a_line bytes json e (Ok o) = tt
of_a_line bytes json e (Err f) = λ memory. (json, e)

pub grows_on : {T : Type 0} (bytes : List ℕ) (result : Result T ReportFault) (f : ReportFault)
    → IsErrAnd result (λ e. e ≡ f) → (f ≡ fault.NoMemory → (json : List ℕ) × (bytes ≡ json ++ 10 ∷ []))
    → GrowsForALine bytes result
grows_on bytes (Ok x) f is grows = tt
grows_on bytes (Err g) f is grows = λ memory. grows (sym is ∙ memory)

-- ---- the laws

-- reports of the same bytes in one version have the same numbers
pub one_content : (went_on : Bool) (bytes : List ℕ) (t u : StageContent) → IsReportBy went_on bytes t
    → IsReportBy went_on bytes u → t ≡ u
one_content went_on bytes t u is also = sym (tells went_on bytes t is) ∙ tells went_on bytes u also

pub one_outcome : (o p : Outcome) → IsOutcome o → IsOutcome p → report_text o ≡ report_text p → content o ≡ content p
one_outcome o p h k e =
    ap (λ (t : StageContent). t.last)
    (one_content false _ _ _ (by_outcome (report_text o) o (record { reportable = h; spelled = refl }))
    (by_outcome _ p (record { reportable = k; spelled = e })))

pub round_trip : RoundTrip
round_trip limits o h fits (Ok read) gives =
    inl (read, refl, sym (one_outcome o read h gives.0.reportable gives.0.spelled))
round_trip limits o h fits (Err f) gives = elim gives [
  | inl memory ↦ inr (ap (λ (f : ReportFault). Err f) memory)
  | inr none ↦ absurd (none.1 o (record { reportable = h; spelled = refl }, fits))
]
