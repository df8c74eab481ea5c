-- Worlds that went through the journals of groups, and the first entry that is not legal.
use Rattle.std.proofs.Common.{◌≡◌, ℕ, suc, ◌+◌, ◌<◌, ◌≤◌, List, [], ◌∷◌, ◌++◌, length, length-append, take, drop, refl, ap, sym, ◌∙◌, subst, arith}
use Rattle.std.specs.Prelude.{All, reverse, slice_index_or}
use Rattle.std.proofs.Math.Seq.{drop-cons}
use Rattle.std.proofs.lemmas.List.{append-nil, length-map, take-append-drop}
use Rattle.st_net.specs.Groups.{Group}
use Rattle.st_event.specs.declared.journal.Entry.{Entry}
use Rattle.st_event.specs.declared.journal.Journal.{Journal}
use Rattle.st_event.specs.History.{History}
use Rattle.st_event.specs.Legal.{Fits, IsLegal}
use Rattle.st_journal.specs.JournalReading.{AreJournalsOf}
use Rattle.st_journal.specs.Replaying.{IsFirstWrong}
use Rattle.st_world.specs.World.{WorldView}
use Rattle.st_serial.specs.Serial.{GroupState, state_of, states_of}
use Rattle.st_replay.specs.Again.{AreKeptStates, IsKeptHistory, histories, histories_of}
use Rattle.st_serial.specs.Kept.{AreKept, IsKept}
use Rattle.st_replay.specs.Replaying.{AreLegal, IsFirstIllegal}
use Rattle.st_serial.proofs.Worlds.{states_push}

abbrev pub history_by : Group → Journal → History
history_by g journal = record { group = g; past = reverse journal.entries }

-- each group has one journal
pub one_each : (n : ℕ) (groups : List Group) (journals : List Journal) → AreJournalsOf n groups journals → length journals ≡ length groups
one_each n [] [] are = refl
one_each n [] (journal ∷ journals) are = absurd are
one_each n (g ∷ groups) [] are = absurd are
one_each n (g ∷ groups) (journal ∷ journals) are = ap suc (one_each (n + 1) groups journals are.1)

-- and the events of that of a group in the middle fit it
pub fits_amid : (n : ℕ) (before after : List Group) (g : Group) (journals : List Journal) (d : Journal) → AreJournalsOf n (before ++ g ∷ after) journals
    → (length before < length journals) × All (λ (entry : Entry). Fits g entry.event) (slice_index_or journals (length before) d).entries
fits_amid n [] after g [] d are = absurd are
fits_amid n [] after g (journal ∷ journals) d are = (omega arith, are.0.fits)
fits_amid n (h ∷ before) after g [] d are = absurd are
fits_amid n (h ∷ before) after g (journal ∷ journals) d are = let rest = fits_amid (n + 1) before after g journals d are.1 in (omega (arith, rest.0), rest.1)

pub fits_here : (topos before after : List Group) (g : Group) (journals : List Journal) (d : Journal) → AreJournalsOf 0 topos journals → topos ≡ before ++ g ∷ after
    → (length before < length journals) × All (λ (entry : Entry). Fits g entry.event) (slice_index_or journals (length before) d).entries
fits_here topos before after g journals d are is = fits_amid 0 before after g journals d (subst (λ (gs : List Group). AreJournalsOf 0 gs journals) is are)

-- a group more
pub histories_long : (groups : List Group) (journals : List Journal) → length groups ≤ length journals → length (histories_of groups journals) ≡ length groups
histories_long [] journals few = refl
histories_long (g ∷ groups) [] few = absurd (omega (arith, few))
histories_long (g ∷ groups) (journal ∷ journals) few = ap suc (histories_long groups journals (omega (arith, few)))

histories_next : (groups : List Group) (g : Group) (journals : List Journal) (d : Journal) → length groups < length journals
    → histories_of (groups ++ g ∷ []) journals ≡ histories_of groups journals ++ history_by g (slice_index_or journals (length groups) d) ∷ []
histories_next [] g [] d low = absurd (omega (arith, low))
histories_next [] g (journal ∷ journals) d low = refl
histories_next (h ∷ groups) g [] d low = absurd (omega (arith, low))
histories_next (h ∷ groups) g (journal ∷ journals) d low = ap (λ hs. history_by h journal ∷ hs) (histories_next groups g journals d (omega (arith, low)))

-- one group more at the end
pub kept_more : (ss : List GroupState) (s : GroupState) → AreKeptStates ss → IsKeptHistory s.history → AreKeptStates (ss ++ s ∷ [])
kept_more [] s kept here = (here, tt)
kept_more (first ∷ ss) s kept here = (kept.0, kept_more ss s kept.1 here)

-- what worlds went through the journals of these groups, and each was kept
pub record AreAgain (groups : List Group) (journals : List Journal) (worlds : List WorldView) : Type 0 where
  pub few : length groups ≤ length journals
  pub histories_are : histories worlds ≡ histories_of groups journals
  pub kept : AreKeptStates (states_of worlds)

pub again_none : (journals : List Journal) (worlds : List WorldView) → worlds ≡ [] → AreAgain [] journals worlds
again_none journals worlds none = record { few = omega arith; histories_are = ap histories none; kept = subst (λ (ws : List WorldView). AreKeptStates (states_of ws)) (sym none) tt }

pub again_many : (groups : List Group) (journals : List Journal) (worlds : List WorldView) → AreAgain groups journals worlds → length worlds ≡ length groups
again_many groups journals worlds are = sym (length-map worlds (λ (w : WorldView). w.history)) ∙ ap length are.histories_are ∙ histories_long groups journals are.few

histories_push : (worlds more : List WorldView) (w : WorldView) → more ≡ worlds ++ w ∷ [] → histories more ≡ histories worlds ++ w.history ∷ []
histories_push [] more w is = ap histories is
histories_push (v ∷ worlds) more w is = ap histories is ∙ ap (λ hs. v.history ∷ hs) (histories_push worlds (worlds ++ w ∷ []) w refl)

pub again_next : (groups : List Group) (g : Group) (journals : List Journal) (d : Journal) (worlds more : List WorldView) (w : WorldView) → length groups < length journals → AreAgain groups journals worlds
    → w.history ≡ history_by g (slice_index_or journals (length groups) d) → IsKeptHistory w.history → more ≡ worlds ++ w ∷ [] → AreAgain (groups ++ g ∷ []) journals more
again_next groups g journals d worlds more w low are is kept adds = record {
  few = omega (arith, low, length-append groups (g ∷ []));
  histories_are = histories_push worlds more w adds ∙ ap (λ hs. hs ++ w.history ∷ []) are.histories_are ∙ ap (λ h. histories_of groups journals ++ h ∷ []) is ∙ sym (histories_next groups g journals d low);
  kept = subst AreKeptStates (sym (states_push worlds more w adds)) (kept_more (states_of worlds) (state_of w) are.kept kept);
}

-- where no group is left these are all
no_group_left : (rest : List Group) → length rest ≡ 0 → rest ≡ []
no_group_left [] none = refl
no_group_left (g ∷ rest) none = absurd (omega (arith, none))

pub again_all : (topos groups rest : List Group) (journals : List Journal) (worlds : List WorldView) → topos ≡ groups ++ rest → length rest ≡ 0 → AreAgain groups journals worlds → (histories worlds ≡ histories_of topos journals) × AreKeptStates (states_of worlds)
again_all topos groups rest journals worlds all none are =
    let same : groups ≡ topos = sym (append-nil groups) ∙ ap (λ (gs : List Group). groups ++ gs) (sym (no_group_left rest none)) ∙ sym all in
    (are.histories_are ∙ ap (λ (gs : List Group). histories_of gs journals) same, are.kept)

-- so the journals are kept
kept_one : (g : Group) (journal : Journal) (w : WorldView) → w.history ≡ history_by g journal → IsKeptHistory w.history → IsKept g journal
kept_one g journal w is kept =
    let here : IsKeptHistory (history_by g journal) = subst IsKeptHistory is kept in
    record { sound = here.sound; legal = here.legal; promises = here.promises }

pub again_kept : (groups : List Group) (journals : List Journal) (worlds : List WorldView) → length journals ≡ length groups → histories worlds ≡ histories_of groups journals → AreKeptStates (states_of worlds) → AreKept groups journals
again_kept [] [] worlds same are kept = tt
again_kept [] (journal ∷ journals) worlds same are kept = absurd (omega (arith, same))
again_kept (g ∷ groups) [] worlds same are kept = absurd (omega (arith, same))
again_kept (g ∷ groups) (journal ∷ journals) [] same are kept = absurd (cc)
again_kept (g ∷ groups) (journal ∷ journals) (w ∷ worlds) same are kept =
    let first : w.history ≡ history_by g journal = cc in
    let rest : histories worlds ≡ histories_of groups journals = cc in
    (kept_one g journal w first kept.0, again_kept groups journals worlds (omega (arith, same)) rest kept.1)

-- and those of the first groups are legal
legal_so_far : (groups : List Group) (journals : List Journal) (worlds : List WorldView) → length groups ≤ length journals → histories worlds ≡ histories_of groups journals → AreKeptStates (states_of worlds) → AreLegal groups (take (length groups) journals)
legal_so_far [] journals worlds few are kept = tt
legal_so_far (g ∷ groups) [] worlds few are kept = absurd (omega (arith, few))
legal_so_far (g ∷ groups) (journal ∷ journals) [] few are kept = absurd (cc)
legal_so_far (g ∷ groups) (journal ∷ journals) (w ∷ worlds) few are kept =
    let first : w.history ≡ history_by g journal = cc in
    let rest : histories worlds ≡ histories_of groups journals = cc in
    ((kept_one g journal w first kept.0).legal, legal_so_far groups journals worlds (omega (arith, few)) rest kept.1)

-- where all went well, all are legal
pub again_legal : (groups : List Group) (journals : List Journal) (worlds : List WorldView) → length journals ≡ length groups → histories worlds ≡ histories_of groups journals → AreKeptStates (states_of worlds) → AreLegal groups journals
again_legal [] [] worlds same are kept = tt
again_legal [] (journal ∷ journals) worlds same are kept = absurd (omega (arith, same))
again_legal (g ∷ groups) [] worlds same are kept = absurd (omega (arith, same))
again_legal (g ∷ groups) (journal ∷ journals) [] same are kept = absurd (cc)
again_legal (g ∷ groups) (journal ∷ journals) (w ∷ worlds) same are kept =
    let first : w.history ≡ history_by g journal = cc in
    let rest : histories worlds ≡ histories_of groups journals = cc in
    ((kept_one g journal w first kept.0).legal, again_legal groups journals worlds (omega (arith, same)) rest kept.1)

-- the first entry that is not legal is that of the group behind those that went well
pub first_illegal : (groups after : List Group) (g : Group) (journals : List Journal) (d : Journal) (worlds : List WorldView) (n entry : ℕ) → length groups < length journals → AreAgain groups journals worlds → n ≡ length worlds
    → IsFirstWrong g (slice_index_or journals (length groups) d).entries entry → IsFirstIllegal (groups ++ g ∷ after) journals n entry
first_illegal groups after g journals d worlds n entry low are number wrong = record {
  before = groups;
  group = g;
  after = after;
  journals_before = take (length groups) journals;
  journal = slice_index_or journals (length groups) d;
  journals_after = drop (suc (length groups)) journals;
  groups_are = refl;
  journals_are = sym (take-append-drop (length groups) journals) ∙ ap (λ js. take (length groups) journals ++ js) (drop-cons journals (length groups) d low);
  number = number ∙ again_many groups journals worlds are;
  legal = legal_so_far groups journals worlds are.few are.histories_are are.kept;
  wrong = wrong;
}

-- legal journals have no entry that is not
pub legal_amid : (before after : List Group) (g : Group) (journals_before journals_after : List Journal) (journal : Journal) → AreLegal before journals_before → AreLegal (before ++ g ∷ after) (journals_before ++ journal ∷ journals_after) → IsLegal g (reverse journal.entries)
legal_amid [] after g [] journals_after journal first all = all.0
legal_amid [] after g (j ∷ js) journals_after journal first all = absurd first
legal_amid (h ∷ before) after g [] journals_after journal first all = absurd first
legal_amid (h ∷ before) after g (j ∷ js) journals_after journal first all = legal_amid before after g js journals_after journal first.1 all.1
