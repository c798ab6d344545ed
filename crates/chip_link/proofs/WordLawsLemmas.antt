-- Serves WordLaws.antt, Words.antt.
-- The contents of the words of an edge and of a vertex, and the effect of the operations on them.
use Rattle.std.proofs.Common.{subst, rules, ◌≡◌, ◌≢◌, ℕ, ◌+◌, ◌*◌, ◌%◌, ◌^◌, ◌<◌, Bool, true, false, eqb, refl, sym, ap}
use Rattle.std.proofs.Common.{◌∙◌, arith, eq-eqb, ne_eqb, bit_or, bit_and, not, ◌/◌, le-leb}
use Rattle.std.proofs.lemmas.Nat.{or_block}
use Rattle.std.proofs.lemmas.Bool.{lt-leb}
use Rattle.std.proofs.lemmas.Nat.Bits.{and_pow}
use mathlib.Core.Logic.{dite}
use native.Mathlib.Decide.{dec_lt}
use Rattle.std.specs.Int.Bits.{or_zero_r}
use Rattle.chip_link.specs.Words.{edge_word, claims_in, is_sealed_in, fired_word, fired_in, is_halted_in}
use Rattle.chip_link.specs.Words.{is_by_limit_in}
use Rattle.chip_link.specs.WordLaws.{ReadsAs, ReadsAsFired, EdgeWordReads, EdgeWordStands, AddsClaims, AddedReads}
use Rattle.chip_link.specs.WordLaws.{SealsWord, SealedReads, ExchangesWord, ExpectsUnsealed, FiredWordReads}
use Rattle.chip_link.specs.WordLaws.{FiredWordStands, AddsFirings, AddedFiringsRead, HaltsWord, HaltReads, HaltsByLimit}
use Rattle.chip_link.specs.WordLaws.{HaltByLimitReads}

-- bits set above the lowest k leave the others
or_above : (k a b r : ℕ) → r < 2 ^ k → bit_or (a * 2 ^ k + r) (b * 2 ^ k + 0) ≡ bit_or a b * 2 ^ k + r
or_above k a b r l = or_block k a b r 0 l (omega arith) ∙ ap (λ (n : ℕ). bit_or a b * 2 ^ k + n) (or_zero_r r)

-- the same if the numbers are written otherwise
or_at : (x y z x' y' z' : ℕ) → bit_or x y ≡ z → x ≡ x' → y ≡ y' → z ≡ z' → bit_or x' y' ≡ z'
or_at x y z x' y' z' e ex ey ez = cc

-- bit 62 of a word, as a mask shows it
pub limit_stands : (word : ℕ) → not (eqb (bit_and word (2 ^ 62)) 0) ≡ is_by_limit_in word
limit_stands word =
    let bit : bit_and word (2 ^ 62) ≡ word / 2 ^ 62 % 2 * 2 ^ 62 = and_pow word 62 in
    dite (dec_lt (word % 2 ^ 63) (2 ^ 62))
    (λ low. let none : bit_and word (2 ^ 62) ≡ 0 = omega arith in ap not (eq-eqb _ _ none)
    ∙ sym (lt-leb (2 ^ 62) (word % 2 ^ 63) low))
    (λ high. let some : bit_and word (2 ^ 62) ≢ 0 = λ e. absurd (omega arith) in ap not (ne_eqb _ _ some)
    ∙ sym (le-leb (2 ^ 62) (word % 2 ^ 63) (omega arith)))

claims_read : (claims : ℕ) (sealed : Bool) → claims < 2 ^ 63 → (edge_word claims sealed < 2 ^ 64)
    × (claims_in (edge_word claims sealed) ≡ claims) × (is_sealed_in (edge_word claims sealed) ≡ sealed)
claims_read = search rules

pub edge_word_reads : EdgeWordReads
edge_word_reads claims sealed l = let r = claims_read claims sealed l in
    (r.0, record { claims_are = r.1; seal_is = r.2 })

-- a word of given contents is read as them
pub read_edge : (word claims : ℕ) (sealed : Bool) → claims < 2 ^ 63 → word ≡ edge_word claims sealed
    → ReadsAs word claims sealed
read_edge word claims sealed l e = subst (λ (w : ℕ). ReadsAs w claims sealed) (sym e)
    (edge_word_reads claims sealed l).1

pub edge_word_stands : EdgeWordStands
edge_word_stands = search rules

pub adds_claims : AddsClaims
adds_claims claims more sealed = omega arith

pub seals_word : SealsWord
seals_word claims true l = or_at (1 * 2 ^ 63 + claims) (1 * 2 ^ 63 + 0) (1 * 2 ^ 63 + claims) (claims + 2 ^ 63) (2 ^ 63)
    (claims + 2 ^ 63) (or_above 63 1 1 claims l) (omega arith) refl (omega arith)
seals_word claims false l = or_at (0 * 2 ^ 63 + claims) (1 * 2 ^ 63 + 0) (1 * 2 ^ 63 + claims) (claims + 0) (2 ^ 63)
    (claims + 2 ^ 63) (or_above 63 0 1 claims l) (omega arith) refl (omega arith)

pub added_reads : AddedReads
added_reads word more fits l =
    let made = edge_word_stands word fits in
    read_edge (word + more) (claims_in word + more) (is_sealed_in word) l (ap (λ (w : ℕ). w + more) (sym made.1)
    ∙ adds_claims (claims_in word) more (is_sealed_in word))

pub sealed_reads : SealedReads
sealed_reads word fits =
    let made = edge_word_stands word fits in
    read_edge (bit_or word (2 ^ 63)) (claims_in word) true made.0 (ap (λ (w : ℕ). bit_or w (2 ^ 63)) (sym made.1)
    ∙ seals_word (claims_in word) (is_sealed_in word) made.0)

pub expects_unsealed : ExpectsUnsealed
expects_unsealed = search rules

pub exchanges_word : ExchangesWord
exchanges_word = search rules

fired_read : (fired : ℕ) (halted by_limit : Bool) → fired < 2 ^ 62 → (fired_word fired halted by_limit < 2 ^ 64)
    × (fired_in (fired_word fired halted by_limit) ≡ fired) × (is_halted_in (fired_word fired halted by_limit) ≡ halted)
    × (is_by_limit_in (fired_word fired halted by_limit) ≡ by_limit)
fired_read = search rules

pub fired_word_reads : FiredWordReads
fired_word_reads fired halted by_limit l = let r = fired_read fired halted by_limit l in
    (r.0, record { fired_is = r.1; halt_is = r.2; cause_is = r.3 })

-- a word of given contents is read as them
pub read_fired : (word fired : ℕ) (halted by_limit : Bool) → fired < 2 ^ 62 → word ≡ fired_word fired halted by_limit
    → ReadsAsFired word fired halted by_limit
read_fired word fired halted by_limit l e = subst (λ (w : ℕ). ReadsAsFired w fired halted by_limit) (sym e)
    (fired_word_reads fired halted by_limit l).1

pub fired_word_stands : FiredWordStands
fired_word_stands = search rules

-- a word is the one of its contents as read, however they were read
pub fired_word_back : (word fired : ℕ) (halted by_limit : Bool) → word < 2 ^ 64 → fired ≡ fired_in word
    → halted ≡ is_halted_in word → by_limit ≡ is_by_limit_in word → fired_word fired halted by_limit ≡ word
fired_word_back word fired halted by_limit fits f h l =
    ap (λ (n : ℕ). fired_word n halted by_limit) f ∙ ap (λ (b : Bool). fired_word (fired_in word) b by_limit) h
    ∙ ap (λ (b : Bool). fired_word (fired_in word) (is_halted_in word) b) l ∙ (fired_word_stands word fits).1

pub adds_firings : AddsFirings
adds_firings fired more halted by_limit = omega arith

-- what is set in the two top bits, a, and what sets them, b
halt_at : (a b c x : ℕ) → bit_or a b ≡ c → (fired y : ℕ) → fired < 2 ^ 62 → a * 2 ^ 62 + fired ≡ x
    → c * 2 ^ 62 + fired ≡ y → bit_or x (b * 2 ^ 62 + 0) ≡ y
halt_at a b c x e fired y l ex ey = or_at _ _ _ x (b * 2 ^ 62 + 0) y (or_above 62 a b fired l
    ∙ ap (λ (n : ℕ). n * 2 ^ 62 + fired) e) ex refl ey

pub halts_word : HaltsWord
halts_word fired true true l = halt_at 3 2 3 _ refl fired _ l (omega arith) (omega arith)
halts_word fired true false l = halt_at 2 2 2 _ refl fired _ l (omega arith) (omega arith)
halts_word fired false true l = halt_at 1 2 3 _ refl fired _ l (omega arith) (omega arith)
halts_word fired false false l = halt_at 0 2 2 _ refl fired _ l (omega arith) (omega arith)

pub halts_by_limit : HaltsByLimit
halts_by_limit fired true true l = halt_at 3 3 3 _ refl fired _ l (omega arith) (omega arith)
halts_by_limit fired true false l = halt_at 2 3 3 _ refl fired _ l (omega arith) (omega arith)
halts_by_limit fired false true l = halt_at 1 3 3 _ refl fired _ l (omega arith) (omega arith)
halts_by_limit fired false false l = halt_at 0 3 3 _ refl fired _ l (omega arith) (omega arith)

pub added_firings_read : AddedFiringsRead
added_firings_read word more fits l =
    let made = fired_word_stands word fits in
    read_fired (word + more) (fired_in word + more) (is_halted_in word) (is_by_limit_in word) l
    (ap (λ (w : ℕ). w + more) (sym made.1)
    ∙ adds_firings (fired_in word) more (is_halted_in word) (is_by_limit_in word))

pub halt_reads : HaltReads
halt_reads word fits =
    let made = fired_word_stands word fits in
    read_fired (bit_or word (2 ^ 63)) (fired_in word) true (is_by_limit_in word) made.0
    (ap (λ (w : ℕ). bit_or w (2 ^ 63)) (sym made.1)
    ∙ halts_word (fired_in word) (is_halted_in word) (is_by_limit_in word) made.0)

pub halt_by_limit_reads : HaltByLimitReads
halt_by_limit_reads word fits =
    let made = fired_word_stands word fits in
    read_fired (bit_or word (2 ^ 63 + 2 ^ 62)) (fired_in word) true true made.0
    (ap (λ (w : ℕ). bit_or w (2 ^ 63 + 2 ^ 62)) (sym made.1)
    ∙ halts_by_limit (fired_in word) (is_halted_in word) (is_by_limit_in word) made.0)
