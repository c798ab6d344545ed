-- What opening a net returns.
use Rattle.std.specs.Prelude.{◌≡◌, ℕ, ◌<◌, Bool, if◌then◌else◌, [], length, slice_get, All, Some, None}
use Rattle.chip_part.specs.Setting.{Setting}
use Rattle.chip_net.specs.Tokens.{newcomer}
use Rattle.chip_net.specs.Roots.{new_root, new_stopper}
use Rattle.chip_net.specs.declared.open.Opened.{Opened}

-- a net of this setting and its tokens: the root, which has the stopper's part if there is no stopper, and the actors
-- of all vertices, ascending, each with room for `trace_rows` trace rows
pub record IsOpened (g : Setting) (trace_rows : ℕ) (stoppable : Bool) (o : Opened) : Type 0 where
  pub setting : o.net.setting ≡ g
  pub root : o.root ≡ new_root o.net (if stoppable then None else Some [])
  pub count : length o.actors.items ≡ g.game.graph.vertices
  pub actors : (v : ℕ) → v < g.game.graph.vertices → slice_get o.actors.items v ≡ Some (newcomer o.net trace_rows v)
  pub ours : All (λ a. a.net ≡ o.net) o.actors.items
  pub stopper : o.stopper ≡ (if stoppable then Some (new_stopper o.net) else None)
