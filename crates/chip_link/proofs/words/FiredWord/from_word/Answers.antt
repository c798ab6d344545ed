-- The three parts that the masks read are those of the word, which is made of them.
use Rattle.std.proofs.Common.{arith, ◌≡◌, ℕ, ◌-◌, ◌^◌, not, eqb, bit_and}
use Rattle.std.proofs.lemmas.Grind.{common_steps}
use Rattle.chip_link.specs.Words.{fired_in, is_halted_in}
use Rattle.chip_link.proofs.WordLawsLemmas.{limit_stands, fired_word_back}
use Rattle.chip_link.proofs.words.FiredWord.from_word.Goals as goal

pub returns-clause-word : goal.returns-clause-word
returns-clause-word c =
    let word : ℕ = c.args.word in
    let fired : bit_and word (2 ^ 62 - 1) ≡ fired_in word = grind (arith, common_steps) in
    let halted : not (eqb (bit_and word (2 ^ 63)) 0) ≡ is_halted_in word = grind (arith, common_steps) in
    fired_word_back word _ _ _ c.ranges.word.fits fired halted (limit_stands word)
