use Rattle.std.proofs.Common.{◌≡◌, ◌∙◌, ℕ, List, Bool, ap, codes, refl, length, replicate, rules, true}
use Rattle.serde_json.specs.Data.{no_members, object, put}
use Rattle.st_player.specs.Entries.{lost_from}
use Rattle.st_player.specs.Json.{numbers_data}
use Rattle.st_player.specs.Pictures.{unkept}
use Rattle.st_player.proofs.PictureLemmas.{all_set}
use Rattle.st_player.proofs.openings.lost_json.Goals as goal

pub returns : goal.returns
returns c =
    let kept = c.args.kept.now in
    let all : c.in_ok-all.all.items ≡ replicate (length kept) true = search rules in
    let marks = c.as_slice.ensures.value ∙ (all ∙ all_set kept _ refl) in
    let numbers : c.as_slice-2.result.now ≡ unkept kept = c.as_slice-2.ensures.value ∙ (c.in_ok-lost.ensures ∙ ap (λ (xs : List Bool). lost_from 0 xs kept) marks) in
    c.object-2.ensures ∙ ap object (c.in_ok-put_array.ensures ∙ (ap (put (codes "lost") (numbers_data c.as_slice-2.result.now)) c.new-object.ensures ∙ ap (λ (xs : List ℕ). put (codes "lost") (numbers_data xs) no_members) numbers))
