use Rattle.chip_file.proofs.JsonNames.{ℕ, List, ◌∷◌, Option, Some, None, ap, ◌∙◌, codes, IfSome, begin_object, string}
use Rattle.chip_file.proofs.JsonNames.{token, colon, IsAfterByte, IsAfterName, BeginsEdges}
use Rattle.chip_file.proofs.graph_text.plain.edges_start.Goals as goal

started : (text : List ℕ) (brace_end name : ℕ) (start : Option ℕ) → IsAfterByte text 0 123 brace_end
    → IsAfterName text brace_end name
    → IfSome start (λ next. IsAfterByte text name 91 next) → IfSome start (λ next. BeginsEdges text next)
started text brace_end name None brace names bracket = tt
started text brace_end name (Some next) brace names bracket = record {
  read = brace.read ∙ ap (λ ls. token begin_object ∷ ls) (names.read
      ∙ ap (λ ls. token (string (codes "edges")) ∷ colon ∷ ls) bracket.read);
  inside = bracket.on.1;
}

pub returns : goal.returns
returns c =
    started c.args.text.now c.in_ok-open.«open» c.in_ok-name.name c.skip-2.result c.in_ok-open.ensures
    c.in_ok-name.ensures c.skip-2.ensures
