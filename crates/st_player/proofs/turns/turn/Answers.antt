use Rattle.std.proofs.Common.{◌∙◌, Bool, List, refl, sym, ap, subst}
use Rattle.st_net.specs.Sets.{is_in}
use Rattle.st_player.specs.declared.snapshot.Held.{Held}
use Rattle.st_player.specs.Entries.{turned_of}
use Rattle.st_player.specs.Steps.{IsHeld}
use Rattle.st_player.proofs.ChangeLemmas.{kept_alike, turned_none}
use Rattle.st_player.proofs.turns.turn.Goals as goal

pub returns-then-all : goal.returns-then-all
returns-then-all c =
    let g = c.args.control.now.group in
    let before = c.requires.before in
    let shown = c.requires.shown c.if-is_shown.true in
    record {
      held = record {
        of = c.requires.marks;
        up_is = refl;
        kept = before.kept ∙ kept_alike g (is_in c.args.before.up) (is_in c.args.up) g.promises (before.whole c.if-all.true) shown;
        whole = λ yes. shown;
      };
      told = sym (turned_none c.args.before.kept.items);
    }

pub returns : goal.returns
returns c =
    let g = c.args.control.now.group in
    let judged = c.in_ok-held.held in
    let is = c.in_ok-turned.ensures.held in
    record {
      held = subst (λ (h : Held). IsHeld g (is_in c.args.up) h) (sym is) c.in_ok-held.ensures;
      told = c.in_ok-turned.ensures.told
          ∙ (ap (λ (bs : List Bool). turned_of bs judged.kept.items) c.as_slice.ensures.value
          ∙ ap (λ (h : Held). turned_of c.args.before.kept.items h.kept.items) (sym is));
    }
