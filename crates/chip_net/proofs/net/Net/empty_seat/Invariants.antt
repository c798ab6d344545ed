use Rattle.chip_net.proofs.Names.{◌≡◌, [], no_parts}
use Rattle.chip_net.proofs.net.Net.empty_seat.Given as goal

abbrev pub ghosts-load_new_seat : goal.ghosts-load_new_seat
ghosts-load_new_seat a = record { then = λ _ _ _ after. after ≡ (no_parts, []) }
