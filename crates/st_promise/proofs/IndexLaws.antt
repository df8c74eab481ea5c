-- The index from links to asks: entries that stay, and what holds of an ask that no lost link has in its list.
use Rattle.std.proofs.Common.{◌≡◌, ◌≢◌, ℕ, zero, suc, ◌+◌, ◌<◌, ◌≤◌, ◌==◌, ◌&&◌, ◌||◌, not, List, [], ◌∷◌, ◌++◌, length, take, drop, All, get_or, set, Vec, Option, Some, None, IfSome, refl, ap, ◌∙◌, sym, arith, inl, inr}
use Rattle.std.specs.Prelude.{Bool, true, false, is_some, slice_index_or, ◌⊎◌}
use Rattle.std.specs.List.{filter, list_any}
use Rattle.std.specs.declared.alloc.Global.{Global}
use Rattle.std.proofs.lemmas.Bool.{cases_lt}
use Rattle.std.proofs.lemmas.Bool.Decides.{nat_tests, eqb_tells}
use Rattle.std.proofs.lemmas.List.{get_or_read, get_or-set_same, get_or-set_other, append-nil, take_all, drop_all}
use Rattle.std.proofs.lemmas.List.Elements.{All-weaker}
use Rattle.std.proofs.lemmas.List.Folds.{list_any-append}
use Rattle.std.proofs.lemmas.List.Sums.{sum_by-le}
use Rattle.std.proofs.lemmas.Map.Views.{any-filter_same}
use Rattle.st_net.specs.declared.entity.Entity.{Entity}
use Rattle.st_net.specs.declared.entity.Entity.TheVariants.{Device, Link}
use Rattle.st_net.specs.declared.promise.Promise.{Promise}
use Rattle.st_net.specs.Groups.{Group, no_link, IsSound, IsPromiseAmong}
use Rattle.st_net.specs.UpGraph.{is_up_link}
use Rattle.st_net.specs.Promises.{is_kept, need_of}
use Rattle.st_net.specs.Asks.{ask_count, ask_of}
use Rattle.st_flow.specs.Rows.{row_at}
use Rattle.st_flow.proofs.Rows.{row_at-set_same, row_at-set_other}
use Rattle.st_promise.specs.declared.kept_flow.Share.{Share}
use Rattle.st_promise.specs.declared.kept_flow.KeptFlow.{KeptFlow}
use Rattle.st_promise.specs.UpNetwork.{up_edges, up_network}
use Rattle.st_flow.specs.Network.{Network}
use Rattle.st_promise.specs.KeptFlow.{IsEndIn, lost_share, lost, IsEnough, AreKeptFlows}
use Rattle.st_promise.specs.Reach.{is_member}
use Rattle.st_promise.specs.FlowIndex.{IsEntered, AreEntered, AreUntouched}
use Rattle.st_promise.proofs.KeptLaws.{left_holds, edges_count}
use Rattle.st_net.proofs.GroupLaws.{ask_at}
use Rattle.st_promise.proofs.BookLaws.{AreFieldsOf, flow_read}
use Rattle.st_promise.proofs.ShareLaws.{edge_read}

-- an entry in a list stands below the number of lists
row_low : (lists : List (Vec ℕ Global)) (x j : ℕ) → is_member (row_at lists x) j ≡ true → x < length lists
row_low [] x j is = absurd cc
row_low (row ∷ lists) zero j is = omega arith
row_low (row ∷ lists) (suc x) j is = let low = row_low lists x j is in omega (arith, low)

pub entered_links : (lists : List (Vec ℕ Global)) (i : ℕ) (shares : List Share) → All (IsEntered lists i) shares → All (λ s. s.link < length lists) shares
entered_links lists i shares all = All-weaker (IsEntered lists i) (λ s. s.link < length lists) (λ s here. row_low lists s.link i here) shares all

-- one list is written anew, with all that ask j has in it
pub entered_with : (lists : List (Vec ℕ Global)) (x : ℕ) (new : Vec ℕ Global) (j : ℕ) → x < length lists → (is_member (row_at lists x) j ≡ true → is_member new.items j ≡ true) → (s : Share) → IsEntered lists j s → IsEntered (set lists x new) j s
entered_with lists x new j low more s here = elim (eqb_tells s.link x) [
  | inl e ↦ (let at : row_at (set lists x new) x ≡ new.items = row_at-set_same lists x new low in rw (e.1, at) (more (rw e.1 at here)))
  | inr e ↦ rw (row_at-set_other lists x s.link new e.1) here
]

-- the list with one ask more
or_true : (b : Bool) → (b || true) ≡ true
or_true true = refl
or_true false = refl

pub member_push : (row : List ℕ) (i j : ℕ) → is_member row j ≡ true → is_member (row ++ i ∷ []) j ≡ true
member_push row i j here = rw (list_any-append (λ x. x == j) row (i ∷ []), here) refl

pub member_here : (row : List ℕ) (i : ℕ) → is_member (row ++ i ∷ []) i ≡ true
member_here row i =
    let same : (i == i) ≡ true = grind (arith, nat_tests) in
    rw (list_any-append (λ x. x == i) row (i ∷ []), same) (or_true (list_any (λ x. x == i) row))

-- and with ask i taken out
pub member_filter : (row : List ℕ) (i j : ℕ) → j ≢ i → is_member row j ≡ true → is_member (filter (λ x. not (x == i)) row) j ≡ true
member_filter row i j other here = rw (any-filter_same (λ x. x == j) (λ x. not (x == i)) true (λ k is. apart k is) row) here
  where
    apart : (k : ℕ) → (k == j) ≡ true → not (k == i) ≡ true
    apart k is = let same : k ≡ j = grind (arith, nat_tests) in let no : (k == i) ≡ false = grind (arith, nat_tests, same, other) in rw no refl

-- what the flow that is kept of ask i has in the index
pub entered_at : (lists : List (Vec ℕ Global)) (flows : List (Option KeptFlow)) (i : ℕ) (read : Option KeptFlow) (k : KeptFlow) → AreEntered lists flows → i < length flows → read ≡ get_or flows i read → read ≡ Some k → All (IsEntered lists i) k.shares.items
entered_at lists flows i read k are low here is =
    let at : slice_index_or flows i None ≡ Some k = sym (get_or_read flows i read low here None) ∙ is in
    rw at at (are i)

-- all but ask i are entered
abbrev pub AreOthersEntered : List (Vec ℕ Global) → List (Option KeptFlow) → ℕ → Type 0
AreOthersEntered lists flows i = (j : ℕ) → j ≢ i → IfSome (slice_index_or flows j None) (λ k. All (IsEntered lists j) k.shares.items)

some_entered : (old new : List (Vec ℕ Global)) (flow : Option KeptFlow) (j : ℕ) → ((s : Share) → IsEntered old j s → IsEntered new j s) → IfSome flow (λ k. All (IsEntered old j) k.shares.items) → IfSome flow (λ k. All (IsEntered new j) k.shares.items)
some_entered old new None j kept all = tt
some_entered old new (Some k) j kept all = All-weaker (IsEntered old j) (IsEntered new j) kept k.shares.items all

pub others_taken : (old new : List (Vec ℕ Global)) (flows : List (Option KeptFlow)) (i : ℕ) → ((j : ℕ) (s : Share) → j ≢ i → IsEntered old j s → IsEntered new j s) → AreEntered old flows → AreOthersEntered new flows i
others_taken old new flows i others are j apart = some_entered old new (slice_index_or flows j None) j (λ s. others j s apart) (are j)

pub others_kept : (old new : List (Vec ℕ Global)) (flows : List (Option KeptFlow)) (i : ℕ) → ((j : ℕ) (s : Share) → j ≢ i → IsEntered old j s → IsEntered new j s) → AreOthersEntered old flows i → AreOthersEntered new flows i
others_kept old new flows i others are j apart = some_entered old new (slice_index_or flows j None) j (λ s. others j s apart) (are j apart)

pub entered_new : (lists : List (Vec ℕ Global)) (flows : List (Option KeptFlow)) (i : ℕ) (flow : Option KeptFlow) → i < length flows → AreOthersEntered lists flows i → IfSome flow (λ k. All (IsEntered lists i) k.shares.items) → AreEntered lists (set flows i flow)
entered_new lists flows i flow low others this j = elim (eqb_tells j i) [
  | inl e ↦ (let is : slice_index_or (set flows i flow) i None ≡ flow = get_or-set_same flows i flow None low in rw (e.1, is) this)
  | inr e ↦ (let is : slice_index_or (set flows i flow) j None ≡ slice_index_or flows j None = get_or-set_other flows i j flow None e.1 in rw is (others j e.1))
]

-- marks with one link more: what is not marked is in no list of a link that is not up
abbrev pub AreMarkedTo : Group → (Entity → Bool) → List (Vec ℕ Global) → List Bool → ℕ → Type 0
AreMarkedTo g up lists marks m = (i link : ℕ) → i < ask_count g → slice_index_or marks i false ≡ false → link < m → is_member (row_at lists link) i ≡ true → is_up_link up link (slice_index_or g.links link no_link) ≡ true

still_false : (b c : Bool) → (b ≡ true → c ≡ true) → c ≡ false → b ≡ false
still_false true c more is = sym (more refl) ∙ is
still_false false c more is = refl

pub marked_to : (g : Group) (up : Entity → Bool) (lists : List (Vec ℕ Global)) (old new : List Bool) (m : ℕ) → AreMarkedTo g up lists old m → ((i : ℕ) → slice_index_or old i false ≡ true → slice_index_or new i false ≡ true) → ((i : ℕ) → i < ask_count g → slice_index_or new i false ≡ false → is_member (row_at lists m) i ≡ true → is_up_link up m (slice_index_or g.links m no_link) ≡ true) → AreMarkedTo g up lists new (m + 1)
marked_to g up lists old new m before kept here i link low unmarked less member = elim (cases_lt link m) [
  | inl earlier ↦ before i link low (still_false (slice_index_or old i false) (slice_index_or new i false) (kept i) unmarked) earlier member
  | inr last ↦ (let same : link ≡ m = omega (arith, last, less) in rw same (here i low unmarked (rw same at member)))
]

-- a share of a link that is up with both its ends loses nothing
all_three : (x y z : Bool) → (x && y && z) ≡ true → (x ≡ true) × (y ≡ true) × (z ≡ true)
all_three true true true is = (refl, refl, refl)
all_three true true false is = absurd cc
all_three true false z is = absurd cc
all_three false y z is = absurd cc

share_stays : (g : Group) (up : Entity → Bool) (lists : List (Vec ℕ Global)) (i : ℕ) (s : Share) → s.link < length g.links → IsEndIn (up_edges 0 g.links (λ e. true)) s → AreUntouched g up lists i → IsEntered lists i s → lost_share up s ≡ 0
share_stays g up lists i s low end untouched entered =
    let link = slice_index_or g.links s.link no_link in
    let ups = all_three (up (Link s.link)) (up (Device link.a)) (up (Device link.b)) (untouched s.link low entered) in
    let ends : (s.head ≡ link.a) ⊎ (s.head ≡ link.b) = rw (edge_read 0 g.links s.link low) at end in
    elim ends [
      | inl e ↦ rw (e, ups.0, ups.1) refl
      | inr e ↦ rw (e, ups.0, ups.2) refl
    ]

none_lost : (up : Entity → Bool) (shares : List Share) → All (λ s. lost_share up s ≡ 0) shares → lost up shares ≡ 0
none_lost up shares all =
    let least = sum_by-le (lost_share up) 0 shares (All-weaker (λ s. lost_share up s ≡ 0) (λ s. lost_share up s ≤ 0) (λ s is. omega (arith, is)) shares all) in
    omega (arith, least)

-- so an ask holds whose flow goes over links that are up alone, where its first ToR is up
pub untouched_holds : (g : Group) (up : Entity → Bool) (p : Promise) (lists : List (Vec ℕ Global)) (i : ℕ) (k : KeptFlow) → IsSound g → IsPromiseAmong g.devices p → IsEnough (up_network g (λ e. true)) p (need_of g p) k → All (IsEntered lists i) k.shares.items → AreUntouched g up lists i → up (Device p.a) ≡ true → is_kept g up p ≡ true
untouched_holds g up p lists i k sound promise enough entered untouched first =
    let none = none_lost up k.shares.items (λ j d low.
    let at = enough.flow.in_range j d low in
    let end = enough.flow.ends j d low in
    share_stays g up lists i (get_or k.shares.items j d) (rw (edges_count 0 g.links (λ e. true)) at at.0) end untouched (entered j d low)) in
    left_holds g up p k (need_of g p) k.sent sound promise enough.flow refl (rw none (omega arith)) enough.enough first

pub shown_whole : (g : Group) (pairs : List Promise) (needs : List ℕ) (whole : Network) (flows : List (Option KeptFlow)) (lists : List (Vec ℕ Global)) (up : Entity → Bool) (i : ℕ) (read : Option KeptFlow) → IsSound g → AreFieldsOf g pairs needs whole → AreKeptFlows whole pairs needs flows → AreEntered lists flows → i < ask_count g → read ≡ get_or flows i read → AreUntouched g up lists i → is_some read ≡ true → up (Device (ask_of g i).a) ≡ true → is_kept g up (ask_of g i) ≡ true
shown_whole g pairs needs whole flows lists up i None sound are kept entered low here untouched some first = absurd cc
shown_whole g pairs needs whole flows lists up i (Some k) sound are kept entered low here untouched some first =
    let count = ap (λ (ps : List Promise). length ps) are.asks_are in
    let enough = flow_read g pairs needs whole flows i (Some k) k are kept low here refl in
    let all = entered_at lists flows i (Some k) k entered (omega (arith, low, count, kept.flows_each)) here refl in
    untouched_holds g up (ask_of g i) lists i k sound (ask_at g i sound low) enough all untouched first

pub both_so : (x y : Bool) → (x && y) ≡ true → (x ≡ true) × (y ≡ true)
both_so true true is = (refl, refl)
both_so true false is = absurd cc
both_so false y is = absurd cc

-- marks that were written as a slice
pub written : (marks items : List Bool) (len : ℕ) → length marks ≡ length items → len ≡ length items → take len (marks ++ drop (length marks) items) ≡ marks
written marks items len count same = rw (count, drop_all (length items) items (omega arith), append-nil marks) (take_all len marks (omega (arith, count, same)))
