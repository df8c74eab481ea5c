-- What the loops that make the marks and the numbers of a cut have so far, and walks that lead no further.
use Rattle.std.proofs.Common.{◌≡◌, ◌∙◌, ℕ, zero, suc, ◌+◌, ◌-◌, ◌<◌, ◌≤◌, true, false, Bool, List, [], ◌∷◌, ◌++◌, length, map, get_or, set, take, refl, sym, ap, subst, arith, All}
use Rattle.std.specs.Prelude.{Result, Ok, Err, IfOk, ◌&&◌, ◌||◌, ◌==◌, not, nat_lt, if◌then◌else◌, slice_index_or, slice_set}
use Rattle.std.specs.List.{filter}
use Rattle.std.proofs.lemmas.Bool.Decides.{nat_tests}
use Rattle.std.proofs.lemmas.List.{append-nil, get_or_append_left, get_or_push, get_or_past, get_or-set_same, get_or-set_other, length-append, length-take-le, take_more, take_all, map-append}
use Rattle.std.proofs.lemmas.List.Elements.{All-nil, All-cons}
use mathlib.Core.Path.{fun_ext}
use Rattle.st_net.specs.declared.entity.Entity.{Entity}
use Rattle.st_net.specs.declared.topo.LinkOpening.{LinkOpening}
use Rattle.st_net.specs.Groups.{Group, no_link}
use Rattle.st_net.specs.InOrder.{entities_of, place_in}
use Rattle.st_net.specs.UpGraph.{is_up_link}
use Rattle.st_net.proofs.EntityOrder.{device_at, link_at}
use Rattle.st_player.specs.Cuts.{is_far, is_joined_from, is_marked, is_near, joins, links_from, numbers_of, with_joined}

-- marks of the first n numbers, set for those that pass a test
pub record AreMarks (test : ℕ → Bool) (n : ℕ) (marks : List Bool) : Type 0 where
  pub count : length marks ≡ n
  pub each : (d : ℕ) → is_marked marks d ≡ (nat_lt d n && test d)

none_below : (d : ℕ) → nat_lt d 0 ≡ false
none_below d = grind (arith, nat_tests)

pub no_marks : (test : ℕ → Bool) (marks : List Bool) → marks ≡ [] → AreMarks test 0 marks
no_marks test marks none = rw none (record { count = refl; each = λ d. rw (none_below d) refl })

push_at : (test : ℕ → Bool) (marks : List Bool) (x : Bool) (n d : ℕ) (low same : Bool) → nat_lt d n ≡ low → (d == n) ≡ same → length marks ≡ n → x ≡ test n → is_marked marks d ≡ (nat_lt d n && test d)
    → is_marked (marks ++ x ∷ []) d ≡ (nat_lt d (n + 1) && test d)
push_at test marks x n d true same low_is same_is count is was =
    let below : d < n = grind (arith, nat_tests) in
    let next : nat_lt d (n + 1) ≡ true = grind (arith, nat_tests) in
    get_or_append_left marks (x ∷ []) false d (omega (arith, below, count)) ∙ (was ∙ rw (low_is, next) refl)
push_at test marks x n d false true low_is same_is count is was =
    let at : d ≡ n = grind (arith, nat_tests) in
    let next : nat_lt d (n + 1) ≡ true = grind (arith, nat_tests) in
    get_or_push marks x false d (count ∙ sym at) ∙ (is ∙ (ap test (sym at) ∙ rw next refl))
push_at test marks x n d false false low_is same_is count is was =
    let high : n + 1 ≤ d = grind (arith, nat_tests) in
    let next : nat_lt d (n + 1) ≡ false = grind (arith, nat_tests) in
    get_or_past (marks ++ x ∷ []) d false (omega (arith, length-append marks (x ∷ []), count, high)) ∙ rw next refl

-- one mark more
pub marks_push : (test : ℕ → Bool) (n : ℕ) (marks more : List Bool) (x : Bool) → AreMarks test n marks → x ≡ test n → more ≡ marks ++ x ∷ [] → AreMarks test (n + 1) more
marks_push test n marks more x are is pushed =
    rw pushed (record {
      count = let c = are.count in let l = length-append marks (x ∷ []) in omega (arith, c, l);
      each = λ d. push_at test marks x n d (nat_lt d n) (d == n) refl refl are.count is (are.each d);
    })

-- all marks
pub marks_all : (test : ℕ → Bool) (n m : ℕ) (marks : List Bool) → AreMarks test n marks → n ≡ m → is_marked marks ≡ (λ d. nat_lt d m && test d)
marks_all test n m marks are is = fun_ext (λ d. are.each d ∙ ap (λ (k : ℕ). nat_lt d k && test d) is)

-- tests
or_false : (a : Bool) → (a || false) ≡ a
or_false true = refl
or_false false = refl

or_assoc : (a b c : Bool) → (a || (b || c)) ≡ ((a || b) || c)
or_assoc true b c = refl
or_assoc false b c = refl

or_swap : (a b : Bool) → (a || b) ≡ (b || a)
or_swap true true = refl
or_swap true false = refl
or_swap false true = refl
or_swap false false = refl

or_spread : (n s b j : Bool) → ((n || (s && b)) || (s && j)) ≡ (n || (s && (b || j)))
or_spread true s b j = refl
or_spread false true b j = refl
or_spread false false b j = refl

-- one link more
joined_last : (i n : ℕ) (xs : List LinkOpening) (link : LinkOpening) (up : Entity → Bool) (near : ℕ → Bool) (d : ℕ) → n ≡ i + length xs → is_joined_from i (xs ++ link ∷ []) up near d ≡ (is_joined_from i xs up near d || joins up near d n link)
joined_last i n [] link up near d at =
    let here : i ≡ n = omega (arith, at) in
    or_false (joins up near d i link) ∙ ap (λ (k : ℕ). joins up near d k link) here
joined_last i n (x ∷ xs) link up near d at =
    ap (λ (rest : Bool). joins up near d i x || rest) (joined_last (suc i) n xs link up near d (omega (arith, at)))
    ∙ or_assoc (joins up near d i x) (is_joined_from (suc i) xs up near d) (joins up near d n link)

joined_more : (links : List LinkOpening) (i : ℕ) (up : Entity → Bool) (near : ℕ → Bool) (d : ℕ) → i < length links → is_joined_from 0 (take (i + 1) links) up near d ≡ (is_joined_from 0 (take i links) up near d || joins up near d i (slice_index_or links i no_link))
joined_more links i up near d low =
    let count = length-take-le i links (omega (arith, low)) in
    ap (λ (xs : List LinkOpening). is_joined_from 0 xs up near d) (take_more links i no_link low)
    ∙ joined_last 0 i (take i links) (slice_index_or links i no_link) up near d (omega (arith, count))

pub grown_more : (links : List LinkOpening) (up : Entity → Bool) (side near : ℕ → Bool) (i : ℕ) (old new : ℕ → Bool) → i < length links
    → ((d : ℕ) → old d ≡ (near d || (not (side d) && is_joined_from 0 (take i links) up near d)))
    → ((d : ℕ) → new d ≡ (old d || (not (side d) && joins up near d i (slice_index_or links i no_link))))
    → (d : ℕ) → new d ≡ (near d || (not (side d) && is_joined_from 0 (take (i + 1) links) up near d))
grown_more links up side near i old new low was more d =
    more d
    ∙ (ap (λ (o : Bool). o || (not (side d) && joins up near d i (slice_index_or links i no_link))) (was d)
    ∙ (or_spread (near d) (not (side d)) (is_joined_from 0 (take i links) up near d) (joins up near d i (slice_index_or links i no_link))
    ∙ ap (λ (j : Bool). near d || (not (side d) && j)) (sym (joined_more links i up near d low))))

pub grown_none : (near side j : Bool) → j ≡ false → near ≡ (near || (side && j))
grown_none true side j none = refl
grown_none false true j none = sym none
grown_none false false j none = refl

-- all links
pub grown_all : (g : Group) (up : Entity → Bool) (side near : ℕ → Bool) (i : ℕ) (new : ℕ → Bool) → length g.links ≤ i
    → ((d : ℕ) → new d ≡ (near d || (not (side d) && is_joined_from 0 (take i g.links) up near d))) → new ≡ with_joined g up side near
grown_all g up side near i new past was =
    fun_ext (λ d. was d ∙ ap (λ (xs : List LinkOpening). near d || (not (side d) && is_joined_from 0 xs up near d)) (take_all i g.links past))

-- one end of a link is marked
one_at : (old : List Bool) (side near : ℕ → Bool) (from to d : ℕ) (x same : Bool) → (to == d) ≡ same → to < length old → x ≡ (is_marked old to || (not (side to) && near from))
    → is_marked (set old to x) d ≡ (is_marked old d || (not (side d) && (same && near from)))
one_at old side near from to d x true same_is low is =
    let at : to ≡ d = grind (arith, nat_tests) in
    subst (λ (k : ℕ). is_marked (set old to x) k ≡ (is_marked old k || (not (side k) && near from))) at (get_or-set_same old to x false low ∙ is)
one_at old side near from to d x false same_is low is =
    get_or-set_other old to d x false (λ at. apart d to at same_is) ∙ unmarked (is_marked old d) (not (side d))
  where
    unmarked : (a b : Bool) → a ≡ (a || (b && false))
    unmarked true b = refl
    unmarked false true = refl
    unmarked false false = refl

    apart : (d to : ℕ) → d ≡ to → (to == d) ≡ false → ⊥
    apart d to at other = grind (arith, nat_tests)

pub joined_one : (old new : List Bool) (side near : ℕ → Bool) (from to : ℕ) → to < length old → new ≡ slice_set old to (is_marked old to || (not (side to) && near from))
    → (d : ℕ) → is_marked new d ≡ (is_marked old d || (not (side d) && ((to == d) && near from)))
joined_one old new side near from to low is d =
    ap (λ (marks : List Bool). is_marked marks d) is ∙ one_at old side near from to d _ (to == d) refl low refl

-- both ends of a link that is up
pub joined_both : (old mid new : List Bool) (up : Entity → Bool) (side near : ℕ → Bool) (i a b : ℕ) (link : LinkOpening) → a ≡ link.a → b ≡ link.b → a < length old → b < length old → length mid ≡ length old → is_up_link up i link ≡ true
    → mid ≡ slice_set old b (is_marked old b || (not (side b) && near a)) → new ≡ slice_set mid a (is_marked mid a || (not (side a) && near b))
    → (d : ℕ) → is_marked new d ≡ (is_marked old d || (not (side d) && joins up near d i link))
joined_both old mid new up side near i a b link a_is b_is a_low b_low count is_up first second d =
    joined_one mid new side near b a (omega (arith, a_low, count)) second d
    ∙ (ap (λ (o : Bool). o || (not (side d) && ((a == d) && near b))) (joined_one old mid side near a b b_low first d)
    ∙ (or_spread (is_marked old d) (not (side d)) ((b == d) && near a) ((a == d) && near b)
    ∙ ap (λ (j : Bool). is_marked old d || (not (side d) && j)) (or_swap ((b == d) && near a) ((a == d) && near b) ∙ rw (is_up, a_is, b_is) refl)))

-- a link that is down joins nothing
pub joined_down : (old : List Bool) (up : Entity → Bool) (side near : ℕ → Bool) (i : ℕ) (link : LinkOpening) → is_up_link up i link ≡ false → (d : ℕ) → is_marked old d ≡ (is_marked old d || (not (side d) && joins up near d i link))
joined_down old up side near i link down d = grown_none (is_marked old d) (not (side d)) (joins up near d i link) (rw down refl)

-- the numbers of links that pass a test, one link more
numbered : (xs rest : List ℕ) (x : ℕ) (is : Bool) → (if is then x ∷ (xs ++ rest) else xs ++ rest) ≡ (if is then x ∷ xs else xs) ++ rest
numbered xs rest x true = refl
numbered xs rest x false = refl

links_last : (i n : ℕ) (test : ℕ → LinkOpening → Bool) (xs : List LinkOpening) (link : LinkOpening) → n ≡ i + length xs → links_from i test (xs ++ link ∷ []) ≡ links_from i test xs ++ (if test n link then n ∷ [] else [])
links_last i n test [] link at = let here : i ≡ n = omega (arith, at) in ap (λ (k : ℕ). if test k link then k ∷ [] else []) here
links_last i n test (x ∷ xs) link at =
    ap (λ rest. if test i x then i ∷ rest else rest) (links_last (suc i) n test xs link (omega (arith, at)))
    ∙ numbered (links_from (suc i) test xs) (if test n link then n ∷ [] else []) i (test i x)

pub links_more : (test : ℕ → LinkOpening → Bool) (links : List LinkOpening) (i : ℕ) → i < length links → links_from 0 test (take (i + 1) links) ≡ links_from 0 test (take i links) ++ (if test i (slice_index_or links i no_link) then i ∷ [] else [])
links_more test links i low =
    let count = length-take-le i links (omega (arith, low)) in
    ap (links_from 0 test) (take_more links i no_link low) ∙ links_last 0 i test (take i links) (slice_index_or links i no_link) (omega (arith, count))

pub links_put : (test : ℕ → LinkOpening → Bool) (links : List LinkOpening) (i : ℕ) (old new : List ℕ) → i < length links → test i (slice_index_or links i no_link) ≡ true → old ≡ links_from 0 test (take i links) → new ≡ old ++ i ∷ [] → new ≡ links_from 0 test (take (i + 1) links)
links_put test links i old new low is was pushed = pushed ∙ (ap (λ xs. xs ++ i ∷ []) was ∙ sym (links_more test links i low ∙ rw is refl))

pub links_skip : (test : ℕ → LinkOpening → Bool) (links : List LinkOpening) (i : ℕ) (old : List ℕ) → i < length links → test i (slice_index_or links i no_link) ≡ false → old ≡ links_from 0 test (take i links) → old ≡ links_from 0 test (take (i + 1) links)
links_skip test links i old low is was = was ∙ sym (links_more test links i low ∙ (rw is refl ∙ append-nil (links_from 0 test (take i links))))

-- each number is that of a link
from_low : (i n : ℕ) (test : ℕ → LinkOpening → Bool) (xs : List LinkOpening) → i + length xs ≤ n → All (λ (k : ℕ). k < n) (links_from i test xs)
from_low i n test [] few = All-nil (λ (k : ℕ). k < n)
from_low i n test (x ∷ xs) few = by_test (test i x) (from_low (suc i) n test xs (omega (arith, few)))
  where
    by_test : (is : Bool) → All (λ (k : ℕ). k < n) (links_from (suc i) test xs) → All (λ (k : ℕ). k < n) (if is then i ∷ links_from (suc i) test xs else links_from (suc i) test xs)
    by_test true rest = All-cons (λ (k : ℕ). k < n) i (links_from (suc i) test xs) (omega (arith, few)) rest
    by_test false rest = rest

pub links_low : (test : ℕ → LinkOpening → Bool) (links : List LinkOpening) → All (λ (k : ℕ). k < length links) (links_from 0 test links)
links_low test links = from_low 0 (length links) test links (omega arith)

-- the numbers of the entities that pass a test, one entity more
filter_last : {X : Type 0} (test : X → Bool) (xs : List X) (x : X) → filter test (xs ++ x ∷ []) ≡ filter test xs ++ (if test x then x ∷ [] else [])
filter_last {X} test [] x = refl
filter_last {X} test (y ∷ xs) x = ap (λ rest. if test y then y ∷ rest else rest) (filter_last test xs x) ∙ kept (filter test xs) (if test x then x ∷ [] else []) y (test y)
  where
    kept : (xs rest : List X) (y : X) (is : Bool) → (if is then y ∷ (xs ++ rest) else xs ++ rest) ≡ (if is then y ∷ xs else xs) ++ rest
    kept xs rest y true = refl
    kept xs rest y false = refl

place_at : (g : Group) (place : ℕ) (e : Entity) (is : Bool) → nat_lt place (length g.devices) ≡ is → place < length (entities_of g) → e ≡ get_or (entities_of g) place e → place_in g e ≡ place
place_at g place e true is low at =
    let here : place < length g.devices = grind (arith, nat_tests) in
    ap (place_in g) (at ∙ sym (device_at g place e here))
place_at g place e false is low at =
    let high : length g.devices ≤ place = grind (arith, nat_tests) in
    ap (place_in g) (at ∙ sym (link_at g place (length g.devices) e refl high low)) ∙ omega (arith, high)

numbers_more : (g : Group) (test : Entity → Bool) (place : ℕ) (e : Entity) → place < length (entities_of g) → e ≡ get_or (entities_of g) place e
    → map (place_in g) (filter test (take (place + 1) (entities_of g))) ≡ map (place_in g) (filter test (take place (entities_of g))) ++ (if test e then place ∷ [] else [])
numbers_more g test place e low at =
    ap (λ es. map (place_in g) (filter test es)) (take_more (entities_of g) place e low ∙ ap (λ (x : Entity). take place (entities_of g) ++ x ∷ []) (sym at))
    ∙ (ap (map (place_in g)) (filter_last test (take place (entities_of g)) e)
    ∙ (map-append (place_in g) (filter test (take place (entities_of g))) (if test e then e ∷ [] else [])
    ∙ ap (λ xs. map (place_in g) (filter test (take place (entities_of g))) ++ xs) (placed (test e))))
  where
    placed : (is : Bool) → map (place_in g) (if is then e ∷ [] else []) ≡ (if is then place ∷ [] else [])
    placed true = ap (λ (k : ℕ). k ∷ []) (place_at g place e (nat_lt place (length g.devices)) refl low at)
    placed false = refl

pub numbers_put : (g : Group) (test : Entity → Bool) (place : ℕ) (e : Entity) (old new : List ℕ) → place < length (entities_of g) → e ≡ get_or (entities_of g) place e → test e ≡ true
    → old ≡ map (place_in g) (filter test (take place (entities_of g))) → new ≡ old ++ place ∷ [] → new ≡ map (place_in g) (filter test (take (place + 1) (entities_of g)))
numbers_put g test place e old new low at is was pushed = pushed ∙ (ap (λ xs. xs ++ place ∷ []) was ∙ sym (numbers_more g test place e low at ∙ rw is refl))

pub numbers_skip : (g : Group) (test : Entity → Bool) (place : ℕ) (e : Entity) (old : List ℕ) → place < length (entities_of g) → e ≡ get_or (entities_of g) place e → test e ≡ false
    → old ≡ map (place_in g) (filter test (take place (entities_of g))) → old ≡ map (place_in g) (filter test (take (place + 1) (entities_of g)))
numbers_skip g test place e old low at is was = was ∙ sym (numbers_more g test place e low at ∙ (rw is refl ∙ append-nil (map (place_in g) (filter test (take place (entities_of g))))))

pub numbers_all : (g : Group) (test : Entity → Bool) (place : ℕ) (numbers : List ℕ) → length (entities_of g) ≤ place → numbers ≡ map (place_in g) (filter test (take place (entities_of g))) → numbers ≡ numbers_of g test
numbers_all g test place numbers past was = was ∙ ap (λ es. map (place_in g) (filter test es)) (take_all place (entities_of g) past)

-- walks that lead no further
pub still : (g : Group) (up : Entity → Bool) (side : ℕ → Bool) (b n k m : ℕ) → m ≡ n + k → with_joined g up side (is_near g up side b n) ≡ is_near g up side b n → is_near g up side b m ≡ is_near g up side b n
still g up side b n zero m at stays = ap (is_near g up side b) (let e : m ≡ n = omega (arith, at) in e)
still g up side b n (suc k) m at stays =
    let e : m ≡ suc (n + k) = omega (arith, at) in
    ap (is_near g up side b) e ∙ (ap (with_joined g up side) (still g up side b n k (n + k) refl stays) ∙ stays)

pub far_found : (g : Group) (up : Entity → Bool) (side : ℕ → Bool) (b n : ℕ) (near : ℕ → Bool) → n ≤ length g.devices → near ≡ is_near g up side b n → near ≡ with_joined g up side near → near ≡ is_far g up side b
unfolding is_far
far_found g up side b n near few is same =
    let stays : with_joined g up side (is_near g up side b n) ≡ is_near g up side b n = ap (with_joined g up side) (sym is) ∙ (sym same ∙ is) in
    is ∙ sym (still g up side b n (length g.devices - n) (length g.devices) (omega (arith, few)) stays)

pub near_more : (g : Group) (up : Entity → Bool) (side : ℕ → Bool) (b n : ℕ) (near more : ℕ → Bool) → near ≡ is_near g up side b n → more ≡ with_joined g up side near → more ≡ is_near g up side b (n + 1)
near_more g up side b n near more is grown =
    let e : suc n ≡ n + 1 = omega arith in
    grown ∙ (ap (with_joined g up side) is ∙ ap (is_near g up side b) e)

pub far_all : (g : Group) (up : Entity → Bool) (side : ℕ → Bool) (b n : ℕ) (near : ℕ → Bool) → n ≡ length g.devices → near ≡ is_near g up side b n → near ≡ is_far g up side b
unfolding is_far
far_all g up side b n near all is = is ∙ ap (is_near g up side b) all

-- what holds of an answer, by what is known of it
pub if_ok_by : {T E : Type 0} (P Q : T → Type 0) (r : Result T E) → ((x : T) → P x → Q x) → IfOk r P → IfOk r Q
if_ok_by P Q (Ok x) f known = f x known
if_ok_by P Q (Err e) f known = tt
