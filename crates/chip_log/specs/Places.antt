-- Claims as they are found.
use Rattle.std.specs.Prelude.{◌≡◌, ℕ, ◌<◌, ◌^◌, if◌then◌else◌, List, map, All, count_by}
use Rattle.chip_log.specs.declared.row.LogRow.{LogRow}
use Rattle.chip_log.specs.declared.past.ClaimPlace.{ClaimPlace}
use Rattle.chip_log.specs.Past.{IsPlace}
use Rattle.chip_log.specs.Judged.{is_claim, is_at}
use Rattle.chip_log.specs.Judge.{place_at}

-- all claims of a log, in some order
pub record AreFound (log : List LogRow) (claims : List ClaimPlace) : Type 0 where
  pub each : All (IsPlace log) claims
  pub few : All (λ claim. claim.row < 2 ^ 32) claims
  pub once : (p i : ℕ) → count_by (is_at p i) (map place_at claims) ≡ (if is_claim log p i then 1 else 0)
