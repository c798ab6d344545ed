-- Serves Core.antt, Reached.antt.
-- The reached worlds are those of the legal logs.
use Rattle.chip_core.proofs.Names.{◌≡◌, ℕ, List, [], ◌∷◌, ◌++◌, refl, sym, ap, ◌∙◌, cond_yes, cond_no}
use Rattle.chip_core.proofs.Names.{Setting, Log, Step, opening_part, part_of, part_in, IsLegalLog}
use Rattle.chip_core.proofs.Names.{done_by, part_by, parts_by, IsOneMore, IsReached, at_opening, one_more}
use Rattle.chip_core.proofs.Names.{ReachedByLegalLogs, at_other}
use Rattle.chip_core.proofs.ReachingLemmas.{by_history}

module _ (g : Setting) where
  -- by these records the parts are those of the log
  same_parts : (records : ℕ → List Step) (log : Log) → ((p : ℕ) → records p ≡ done_by g p log)
      → parts_by g records ≡ part_in g log
  same_parts records log same = λ j p. (ap (part_by g (opening_part g)) (same p) ∙ sym (by_history g log p)) j

  to_reached : (log : Log) → IsLegalLog g log → IsReached g (λ p. done_by g p log)
  to_reached [] legal = at_opening (λ p. done_by g p []) (λ p. refl)
  to_reached (x ∷ log) legal =
      let same = same_parts (λ p. done_by g p log) log (λ p. refl) in
      one_more (λ p. done_by g p log) (λ p. done_by g p (x ∷ log)) x (to_reached log legal.0) record {
        may = cc;
        saw = rw same legal.1.1;
        mine = cond_yes (part_of g x.event) (part_of g x.event) (done_by g (part_of g x.event) log ++ x ∷ [])
            (done_by g (part_of g x.event) log) refl;
        others = λ p other. cond_no (part_of g x.event) p (done_by g p log ++ x ∷ []) (done_by g p log)
            (λ z. other (sym z));
      }

  -- some legal log leads to these records
  IsLeft : (ℕ → List Step) → Type 0
  IsLeft records = (log : Log) × IsLegalLog g log × ((p : ℕ) → records p ≡ done_by g p log)

  goes_on : (old new : ℕ → List Step) (x : Step) → IsOneMore g old x new → IsLeft old → IsLeft new
  unfolding IsLeft
  goes_on old new x more (log, legal, same) =
      let parts = same_parts old log same in (
        x ∷ log,
        (
          legal,
          (
            rw (← parts) more.may,
            rw (← parts) more.saw,
          ),
        ),
        at_other (λ p (did : List Step). new p ≡ did) (part_of g x.event) (λ p. done_by g p log ++ x ∷ []) (λ p. done_by g p log)
            (let a = same (part_of g x.event) in cc)
            (λ p other. (let b = more.others p (λ z. other (sym z)) in let c = same p in cc)),
      )

  from_reached : (records : ℕ → List Step) → IsReached g records → IsLeft records
  unfolding IsLeft
  from_reached records (at_opening _ none) = ([], tt, none)
  from_reached records (one_more old _ x reached more) = goes_on old records x more (from_reached old reached)

pub reached_by_legal_logs : ReachedByLegalLogs
unfolding IsLeft
reached_by_legal_logs g = (to_reached g, from_reached g)
