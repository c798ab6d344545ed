-- Serves SimulateCommand.antt.
-- The lines of a schedule, as far as it was run.
use Rattle.std.proofs.Common.{◌≡◌, ℕ, Bool, true, false, List, [], ◌∷◌, ◌++◌, flat_map, refl, sym, append_assoc}
use Rattle.std.proofs.Common.{append-nil}
use Rattle.chip_link.specs.declared.event.Event.{Event}
use Rattle.chip_part.specs.declared.reply.Reply.{Reply}
use Rattle.chip_part.specs.Setting.{Setting}
use Rattle.chip_core.specs.Core.{Log, step, log_after, replies_to}
use Rattle.chip_core.proofs.ReplyLemmas.{log_after-append}
use Rattle.chip_world.specs.World.{WorldState, StandsForLog, WhateverLog, Steps}
use Rattle.chip_world.specs.Run.{RunsEvents}
use Rattle.chip_world.specs.declared.world.running.Record.{Record}
use Rattle.chip_engine.specs.Board.{board_text}
use Rattle.chip_engine.specs.SimulateCommand.{reply_text, answer_text, answers_text}

answers_text-append : (books : Bool) (g : Setting) (log : Log) (xs ys : List Event)
    → answers_text books g log (xs ++ ys) ≡ answers_text books g log xs ++ answers_text books g (log_after g log xs) ys
answers_text-append books g log [] ys = refl
answers_text-append books g log (x ∷ xs) ys = rw (answers_text-append books g (step g log x).0 xs ys)
    (sym (append_assoc (answer_text books g (step g log x).0 (step g log x).1) _ _))

answers_text-plain : (g : Setting) (log : Log) (xs : List Event)
    → answers_text false g log xs ≡ flat_map reply_text (replies_to g log xs)
answers_text-plain g log [] = refl
answers_text-plain g log (x ∷ xs) =
    rw (append-nil (reply_text (step g log x).1), answers_text-plain g (step g log x).0 xs) refl

-- what was run, and the lines of it
abbrev pub HasRun : Bool → Setting → List Event → WorldState → List ℕ → Type 0
HasRun books g done w text = StandsForLog g (log_after g [] done) w × (text ≡ answers_text books g [] done)

regroup : (text reply board : List ℕ) → (text ++ reply) ++ board ≡ text ++ ((reply ++ board) ++ [])
regroup text reply board = simp (append_assoc, append-nil)

-- one more event, its reply and the books
pub one_answer_more : (g : Setting) (done : List Event) (x : Event) (old new : WorldState) (reply : Reply)
    (text middle text' : List ℕ) → HasRun true g done old text → Steps old new x reply → middle ≡ text ++ reply_text reply
    → WhateverLog new (λ h log. text' ≡ middle ++ board_text h log) → HasRun true g (done ++ x ∷ []) new text'
one_answer_more g done x old new reply text middle text' (stands, text_is) steps wrote board =
    let made = steps g (log_after g [] done) stands in
    rw (log_after-append g [] done (x ∷ []), answers_text-append true g [] done (x ∷ [])) (
      made.0,
      rw (board g _ made.0, wrote, text_is, made.1) (regroup _ (reply_text (step g (log_after g [] done) x).1)
          (board_text g (step g (log_after g [] done) x).0)),
    )

-- one more stretch of events, and its replies
pub one_stretch_more : (g : Setting) (done stretch : List Event) (old new : WorldState) (r : Record)
    (text text' : List ℕ) → HasRun false g done old text → WhateverLog old (λ h log. RunsEvents h log stretch new r)
    → text' ≡ text ++ flat_map reply_text r.replies.items → HasRun false g (done ++ stretch) new text'
one_stretch_more g done stretch old new r text text' (stands, text_is) runs wrote =
    let made = runs g (log_after g [] done) stands in
    rw (log_after-append g [] done stretch, answers_text-append false g [] done stretch) (
      made.world,
      rw (wrote, text_is, answers_text-plain g (log_after g [] done) stretch, made.recorded.replies_are) refl,
    )
