use Rattle.std.proofs.Common.{[], ◌∷◌, ◌++◌, ◌∙◌, ap, arith, codes, length, map, refl, sym}
use Rattle.std.proofs.lemmas.List.{with_items_is}
use Rattle.st_serial.specs.Serial.{run_in, states_of}
use Rattle.st_text.specs.Words.{line, text_of}
use Rattle.st_top.specs.Reverting.{all_led_back, revert_words}
use Rattle.st_top.proofs.LedBack.{led_on, led_stopped}
use Rattle.st_top.proofs.reverting.led_back.Goals.{in-Some, in-None+in_ok-full-in-None}
use Rattle.st_top.proofs.reverting.led_back.Goals as goal

pub returns : goal.returns
returns c = elim c.match-full.branch [
  | in-Some w ↦ led_stopped c.args.version w.in-Some.group (run_in c.args.ran) _ (ap (λ ws. states_of ws.items) w.worlds-is) refl w.full-is w.in-Some.is
  | in-None+in_ok-full-in-None w ↦ led_on c.args.version (run_in c.args.ran) _ c.print_line.new.out w.lead_all_back.new.out w.in-None.is refl
      (rw (w.worlds-is, w.full-is) (ap (λ ws. record { groups = states_of ws; full = w.in_ok-full-in-None.full }) (with_items_is c.args.ran.worlds w.lead_all_back.new.worlds (omega (arith, w.lead_all_back.auto.worlds, ap length w.as_mut_slice.ensures.value, c.args.ran.worlds.ok.0)))
      ∙ w.in_ok-full-in-None.ensures.worlds ∙ ap (λ ws. all_led_back c.args.version 0 (states_of ws)) w.as_mut_slice.ensures.value))
      (c.in_ok-print_line.ensures.ok ∙ ap (λ t. t ++ line (codes "statesman") (codes "revert" ∷ codes "1" ∷ [])) c.new-lines.ensures)
      w.lines-is
      (λ none. w.in_ok-full-in-None.ensures.lines (sym w.full-is ∙ none) ∙ ap (λ ws. c.print_line.new.out ++ text_of (map (revert_words c.args.version) (states_of ws))) w.as_mut_slice.ensures.value)
]
