use Rattle.chip_file.proofs.Names.{◌≡◌, ◌∙◌, None, Some, ap, refl, replicate, rules, sym}
use Rattle.chip_file.proofs.KeptLemmas.{refused}
use Rattle.chip_file.proofs.VertexRowLemmas.{by_vertex-none, named_numbers}
use Rattle.chip_file.proofs.vertex_rows.numbers_of_text.Goals as goal

pub returns-in_err-named : goal.returns-in_err-named
returns-in_err-named c =
    let blank : c.in_ok-none.none.items ≡ replicate c.args.vertices None = search rules in
    refused _ _ _ _ c.from_residual-in_err-named.ensures.1
    (c.in_err-named.ensures (by_vertex-none _ _ _ _ blank (λ v. refl)))

pub returns : goal.returns
returns c =
    let blank : c.in_ok-none.none.items ≡ replicate c.args.vertices None = search rules in
    let all = c.in_ok-named.ensures (by_vertex-none _ _ _ _ blank (λ v. refl)) in
    rw all.0 (ap Some (named_numbers _ _ _ all.1 ∙ sym (rw c.deref.ensures.value at c.in_ok-numbers_or_none.ensures)))
