-- The walk of `clap` over the words is the grammar's own reading.
use Rattle.std.proofs.Common.{◌≡◌, ◌∙◌, ◌&&◌, ◌||◌, ◌++◌, ℕ, Bool, true, false, cond, not, List, [], ◌∷◌, map, ap, ap₂, sym, refl, codes, true≢false, Option, Some, None}
use Rattle.std.proofs.lemmas.List.{map-append, append-nil}
use Rattle.std.specs.Prelude.{fold, option_and_then}
use Rattle.std.specs.List.{list_any}
use Rattle.std.specs.Option.{option_map_or}
use Rattle.std.specs.Str.{bytes_eq, chars}
use Rattle.clap.specs.Lexer.{long_of, short_of}
use Rattle.clap.specs.Walk.{Rule, Text, Row, Held, Walk, Waiting, Step, idle, option, next, trailing, value, with_default, finished, settled, has_row, at_row, walked, walk_from, word_met, after_step, nothing_held, plain_word, used, more_values, positional, long_or_other, long_word, short_or_plain, bundle_met, is_pending, positional_held, pushed, reacted, after_flag, option_met, long_met}
use Rattle.clap.specs.Simple.{Shape}
use Rattle.clap.specs.Kinds.{Kinds, or_else}
use Rattle.clap.specs.Takes.{is_given}
use Rattle.clap.specs.Faults.{defaults_fault, walk_fault, settle_fault, check_fault, turn_fault, word_fault, step_fault, flags_fault, use_fault, flag_word_fault, long_fault, bundle_fault, positional_fault, stray_fault, react_fault, option_fault}
use Rattle.clap.specs.declared.parser.matches.ValueSource.TheVariants.{CommandLine}
use Rattle.clap.specs.declared.builder.value_parser.ValueParser.TheVariants as vp
use Rattle.clap.specs.Values.{reading_of}
use Rattle.clap.specs.declared.error.kind.ErrorKind.TheVariants.{UnknownArgument}
use Rattle.st_words.specs.Grammar.{is_among, is_option, name_in, value_in}
use Rattle.st_words.proofs.Reading.{NamedText, has_name, with_text, reads}
use Rattle.st_words.proofs.Looks.{Looks, looks, has_any, is_flag, is_bundle, flag_two, flag_long, flag_short, no_flag, two_dashes, named, unnamed, bundled, dashed, plain as plain_look}
use Rattle.st_words.proofs.Rules.{single, option_rule, word_rule, rules_from, flat_shape, by_long, by_short, by_first_index, by_second_index, IsKnown, option_known, word_known, no_default, no_default_fault, bytes_eq-self, same_text}

-- ---- what a walk comes to: its rows, or none where it has a fault

abbrev pub word_name : Text
word_name = codes "command"

abbrev pub part_row : NamedText → Row
part_row p = record { id = p.0; values = p.1 ∷ []; count = None; source = Some CommandLine; reading = reading_of vp.String }

abbrev pub rows_for : List NamedText → List Row
rows_for said = map part_row said

abbrev pub unless : {X : Type 0} → Kinds → Option X → Option X
unless [] x = x
unless (k ∷ ks) x = None

pub unless-or_else : {X : Type 0} (a b : Kinds) (x : Option X) → unless (or_else a b) x ≡ unless a (unless b x)
unless-or_else [] b x = refl
unless-or_else (k ∷ ks) b x = refl

pub unless-none : {X : Type 0} (a : Kinds) → unless {X = X} a None ≡ None
unless-none [] = refl
unless-none (k ∷ ks) = refl

-- ---- rows and parts

or_assoc : (a b d : Bool) → ((a || b) || d) ≡ (a || (b || d))
or_assoc true b d = refl
or_assoc false b d = refl

has_row-named : (name : Text) (said : List NamedText) → has_row name (rows_for said) ≡ has_name name said
has_row-named name [] = refl
has_row-named name (p ∷ said) = ap (λ b. bytes_eq p.0 name || b) (has_row-named name said)

at_row_first : (b : Bool) (name : Text) (change : Row → List Row) (missing : List Row) (r : Row) (rows : List Row) → bytes_eq r.id name ≡ b
    → (has_row name rows ≡ false → at_row name change missing rows ≡ rows ++ missing)
    → has_row name (r ∷ rows) ≡ false → at_row name change missing (r ∷ rows) ≡ (r ∷ rows) ++ missing
at_row_first true name change missing r rows e later h = absurd (true≢false (rw e at h))
at_row_first false name change missing r rows e later h = rw e (ap (λ rs. r ∷ rs) (later (rw e at h)))

at_row_missing : (name : Text) (change : Row → List Row) (missing : List Row) (rows : List Row) → has_row name rows ≡ false → at_row name change missing rows ≡ rows ++ missing
at_row_missing name change missing [] h = refl
at_row_missing name change missing (r ∷ rows) h = at_row_first (bytes_eq r.id name) name change missing r rows refl (at_row_missing name change missing rows) h

used_last : (said : List NamedText) (name text : Text) (long : Option Text) (index : Option ℕ) (required : Bool) → has_name name said ≡ false
    → used (single name long index required) (text ∷ []) (rows_for said) ≡ rows_for (said ++ (name, text) ∷ [])
used_last said name text long index required h =
    let none : has_row name (rows_for said) ≡ false = has_row-named name said ∙ h in
    rw (at_row_missing name (λ r. []) [] (rows_for said) none, append-nil (rows_for said))
    (at_row_missing name (more_values CommandLine (text ∷ [])) (part_row (name, text) ∷ []) (rows_for said) none ∙ sym (map-append part_row said ((name, text) ∷ [])))

module _ (names : List Text) where
  abbrev s : Shape
  s = flat_shape names

  abbrev c : List Rule
  c = rules_from names

  -- what is checked of what is held at the end
  abbrev pub at_end : Held → Kinds
  at_end h = or_else (settle_fault c false h) (or_else (defaults_fault (settled c h).rows c) (check_fault s (finished c h) false))

  abbrev pub comes_to : Walk → List Text → Option (List Row)
  comes_to w words =
      unless (or_else (walk_fault s [] w words) (at_end (fold (walked c []) w words).held)) (Some (finished c (fold (walked c []) w words).held))

  abbrev pub at : Waiting → ℕ → Bool → Held → Walk
  at waiting position is_trailing h =
      record { held = h; waiting = waiting; position = position; is_trailing = is_trailing; stopped = None }

  pub one_turn : (waiting : Waiting) (position : ℕ) (tr : Bool) (h : Held) (word : Text) (rest : List Text)
      → comes_to (at waiting position tr h) (word ∷ rest)
      ≡ unless (turn_fault s [] (at waiting position tr h) word) (comes_to (walked c [] (at waiting position tr h) word) rest)
  unfolding walk_fault
  one_turn waiting position tr h word rest =
      let w = at waiting position tr h in
      let end = fold (walked c []) (walked c [] w word) rest in
      unless-or_else (or_else (turn_fault s [] w word) (walk_fault s [] (walked c [] w word) rest)) (at_end end.held) (Some (finished c end.held))
      ∙ unless-or_else (turn_fault s [] w word) (walk_fault s [] (walked c [] w word) rest) (unless (at_end end.held) (Some (finished c end.held)))
      ∙ ap (unless (turn_fault s [] w word)) (sym (unless-or_else (walk_fault s [] (walked c [] w word) rest) (at_end end.held) (Some (finished c end.held))))

  -- a turn by what the word is met as, and what is wrong with it
  pub turn_by : (waiting : Waiting) (position : ℕ) (tr : Bool) (h : Held) (word : Text) (rest : List Text) (met : Held × Step) (kinds : Kinds)
      → word_met c [] tr waiting position word h ≡ met → word_fault s [] tr waiting word h ≡ kinds
      → comes_to (at waiting position tr h) (word ∷ rest)
      ≡ unless kinds (unless (step_fault s position met.0 met.1) (comes_to (after_step c word (at waiting position tr h) met.0 met.1) rest))
  unfolding walked
  turn_by waiting position tr h word rest met kinds is bad =
      one_turn waiting position tr h word rest
      ∙ unless-or_else (word_fault s [] tr waiting word h) (step_fault s position (word_met c [] tr waiting position word h).0 (word_met c [] tr waiting position word h).1) _
      ∙ ap₂ (λ (k : Kinds) (m : Held × Step). unless k (unless (step_fault s position m.0 m.1) (comes_to (after_step c word (at waiting position tr h) m.0 m.1) rest))) bad is

  abbrev pub hold : List Row → Option (Text × List Text) → Held
  hold rows pending = record { rows = rows; pending = pending; skip = 0 }

  -- what is held is refused, or settles as these parts
  pub data Settles (rows : List Row) (pending : Option (Text × List Text)) (more : Option (List NamedText)) : Type 0 where
    refuses : ((x : Option (List Row)) → unless (settle_fault c false (hold rows pending)) x ≡ None) → more ≡ None → Settles rows pending more
    gives : (said : List NamedText) → settle_fault c false (hold rows pending) ≡ [] → settled c (hold rows pending) ≡ hold (rows_for said) None → more ≡ Some said → Settles rows pending more

  pub settles_alone : (said : List NamedText) → Settles (rows_for said) None (Some said)
  settles_alone said = gives said refl refl refl

  single_settles : (b : Bool) (said : List NamedText) (name text : Text) → IsKnown names name → has_name name said ≡ b → Settles (rows_for said) (Some (name, text ∷ [])) (with_text (name, text) said)
  single_settles true said name text known has =
      refuses (λ x. rw (known.found, has_row-named name said, has) refl) (rw has refl)
  single_settles false said name text known has =
      gives (said ++ (name, text) ∷ []) (rw (known.found, has_row-named name said, has) refl)
      (rw known.found (ap (λ rows. hold rows None) (used_last said name text known.long known.index known.required has))) (rw has refl)

  pub settles_one : (said : List NamedText) (name text : Text) → IsKnown names name → Settles (rows_for said) (Some (name, text ∷ [])) (with_text (name, text) said)
  settles_one said name text known = single_settles (has_name name said) said name text known refl

  -- an option without its value
  pub settles_none : (said : List NamedText) (name : Text) → IsKnown names name → (x : Option (List Row)) → unless (settle_fault c false (hold (rows_for said) (Some (name, [])))) x ≡ None
  settles_none said name known x = rw known.found refl

  -- ---- what a word is met as

  met_by : (waiting : Waiting) (position : ℕ) (word : Text) (h : Held)
      → word_met c [] false waiting position word h ≡ cond (bytes_eq word (codes "--")) (h, trailing position) (long_or_other c waiting word (long_of word) h)
  met_by idle position word h = refl
  met_by (option name) position word h = refl
  met_by positional position word h = refl

  fault_by : (waiting : Waiting) (word : Text) (h : Held)
      → word_fault s [] false waiting word h ≡ cond (bytes_eq word (codes "--")) [] (flag_word_fault c false (long_of word) word h)
  fault_by idle word h = refl
  fault_by (option name) word h = refl
  fault_by positional word h = refl

  -- a long word
  long_is : (waiting : Waiting) (position : ℕ) (word : Text) (h : Held) (name : Text) (v : Option Text) → bytes_eq word (codes "--") ≡ false → long_of word ≡ Some (name, v)
      → word_met c [] false waiting position word h ≡ long_word c waiting word name v h
  long_is waiting position word h name v two long = met_by waiting position word h ∙ rw (two, long) refl

  long_wrong : (waiting : Waiting) (word : Text) (h : Held) (name : Text) (v : Option Text) → bytes_eq word (codes "--") ≡ false → long_of word ≡ Some (name, v)
      → word_fault s [] false waiting word h ≡ long_fault c false (cond (is_among name names) (Some (option_rule name)) None) v h
  long_wrong waiting word h name v two long = fault_by waiting word h ∙ rw (two, long) (ap (λ a. long_fault c false a v h) (by_long names name))

  -- a word with a fault of its own
  fails_at : (waiting : Waiting) (position : ℕ) (h : Held) (word : Text) (rest : List Text) (kinds : Kinds)
      → word_fault s [] false waiting word h ≡ kinds → ((x : Option (List Row)) → unless kinds x ≡ None) → comes_to (at waiting position false h) (word ∷ rest) ≡ None
  fails_at waiting position h word rest kinds bad none =
      turn_by waiting position false h word rest (word_met c [] false waiting position word h) kinds refl bad ∙ none _

  unnamed_fails : (waiting : Waiting) (position : ℕ) (h : Held) (word : Text) (rest : List Text) (name : Text) (v : Option Text) → bytes_eq word (codes "--") ≡ false
      → long_of word ≡ Some (name, v) → is_among name names ≡ false → comes_to (at waiting position false h) (word ∷ rest) ≡ None
  unnamed_fails waiting position h word rest name v two long none =
      fails_at waiting position h word rest (UnknownArgument ∷ []) (long_wrong waiting word h name v two long ∙ rw none refl) (λ x. refl)

  bundle_wrong : (flags : Text) (x : ℕ) (xs : List ℕ) (rows : List Row) (p : Option (Text × List Text)) → chars flags ≡ x ∷ xs → bundle_fault c false flags (hold rows p) ≡ UnknownArgument ∷ []
  unfolding flags_fault chars
  bundle_wrong [] x xs rows p e = cc
  bundle_wrong (b ∷ bs) x xs rows p e = rw (e, by_short names x) refl

  bundled_fails : (waiting : Waiting) (position : ℕ) (rows : List Row) (p : Option (Text × List Text)) (word : Text) (rest : List Text) (flags : Text) (x : ℕ) (xs : List ℕ)
      → bytes_eq word (codes "--") ≡ false → long_of word ≡ None → short_of word ≡ Some flags → chars flags ≡ x ∷ xs → comes_to (at waiting position false (hold rows p)) (word ∷ rest) ≡ None
  bundled_fails waiting position rows p word rest flags x xs two long short e =
      fails_at waiting position (hold rows p) word rest (UnknownArgument ∷ []) (fault_by waiting word (hold rows p) ∙ rw (two, long, short) (bundle_wrong flags x xs rows p e)) (λ y. refl)

  -- a word that is no flag
  no_chars_met : (waiting : Waiting) (word : Text) (b : ℕ) (bs cs : List ℕ) (rows : List Row) (p : Option (Text × List Text)) → chars (b ∷ bs) ≡ cs → has_any cs ≡ false
      → short_or_plain c waiting word (Some (b ∷ bs)) (hold rows p) ≡ plain_word c waiting word (hold rows p)
  unfolding bundle_met
  no_chars_met waiting word b bs [] rows p none f = rw none refl
  no_chars_met waiting word b bs (x ∷ xs) rows p some f = absurd (true≢false f)

  no_bundle_met : (waiting : Waiting) (word : Text) (o : Option Text) (rows : List Row) (p : Option (Text × List Text)) → is_bundle o ≡ false
      → short_or_plain c waiting word o (hold rows p) ≡ plain_word c waiting word (hold rows p)
  unfolding bundle_met
  no_bundle_met waiting word None rows p e = refl
  no_bundle_met waiting word (Some []) rows p e = refl
  no_bundle_met waiting word (Some (b ∷ bs)) rows p e = no_chars_met waiting word b bs (chars (b ∷ bs)) rows p refl e

  no_chars : (b : ℕ) (bs cs : List ℕ) (rows : List Row) (p : Option (Text × List Text)) → chars (b ∷ bs) ≡ cs → has_any cs ≡ false → bundle_fault c false (b ∷ bs) (hold rows p) ≡ []
  unfolding flags_fault
  no_chars b bs [] rows p none f = rw none refl
  no_chars b bs (x ∷ xs) rows p some f = absurd (true≢false f)

  no_bundle_wrong : (o : Option Text) (rows : List Row) (p : Option (Text × List Text)) → is_bundle o ≡ false → option_map_or (λ flags. bundle_fault c false flags (hold rows p)) o [] ≡ []
  unfolding flags_fault
  no_bundle_wrong None rows p e = refl
  no_bundle_wrong (Some []) rows p e = refl
  no_bundle_wrong (Some (b ∷ bs)) rows p e = no_chars b bs (chars (b ∷ bs)) rows p refl e

  plain_is : (waiting : Waiting) (position : ℕ) (word : Text) (rows : List Row) (p : Option (Text × List Text)) → bytes_eq word (codes "--") ≡ false → long_of word ≡ None → is_bundle (short_of word) ≡ false
      → word_met c [] false waiting position word (hold rows p) ≡ plain_word c waiting word (hold rows p)
  plain_is waiting position word rows p two long none = met_by waiting position word (hold rows p) ∙ rw (two, long) (no_bundle_met waiting word (short_of word) rows p none)

  plain_right : (waiting : Waiting) (word : Text) (rows : List Row) (p : Option (Text × List Text)) → bytes_eq word (codes "--") ≡ false → long_of word ≡ None → is_bundle (short_of word) ≡ false
      → word_fault s [] false waiting word (hold rows p) ≡ []
  plain_right waiting word rows p two long none = fault_by waiting word (hold rows p) ∙ rw (two, long) (no_bundle_wrong (short_of word) rows p none)

  -- ---- how the walk ends

  abbrev pub complete : List NamedText → Option (List Row)
  complete said = cond (has_name word_name said) (Some (rows_for said)) None

  abbrev pub place : Bool → ℕ
  place has_word = cond has_word 2 1

  -- the parts that the words spell after these, as rows
  abbrev pub spelled : Option Text → Bool → List Text → List NamedText → Option (List Row)
  spelled waits tr words said = option_and_then complete (reads is_flag names waits tr said words)

  given_first : (b : Bool) (p : NamedText) (said : List NamedText) → bytes_eq p.0 word_name ≡ b → is_given word_name (rows_for said) ≡ has_name word_name said
      → is_given word_name (rows_for (p ∷ said)) ≡ has_name word_name (p ∷ said)
  given_first true p said e later = rw e refl
  given_first false p said e later = rw e later

  given_is : (said : List NamedText) → is_given word_name (rows_for said) ≡ has_name word_name said
  given_is [] = refl
  given_is (p ∷ said) = given_first (bytes_eq p.0 word_name) p said refl (given_is said)

  or_false : (b : Bool) → (b || false) ≡ b
  or_false true = refl
  or_false false = refl

  or_true : (b : Bool) → (b || true) ≡ true
  or_true true = refl
  or_true false = refl

  and_false : (b : Bool) → (b && false) ≡ false
  and_false true = refl
  and_false false = refl

  wanted_is : (ns : List Text) (rows : List Row) → list_any (λ (a : Rule). a.required && not (is_given a.id rows)) (rules_from ns) ≡ not (is_given word_name rows)
  wanted_is [] rows = or_false (not (is_given word_name rows))
  wanted_is (n ∷ ns) rows = wanted_is ns rows

  end_first : (b : Bool) (said : List NamedText) → has_name word_name said ≡ b → unless (check_fault s (rows_for said) false) (Some (rows_for said)) ≡ complete said
  end_first true said e = rw (wanted_is names (rows_for said), given_is said, e) refl
  end_first false said e = rw (wanted_is names (rows_for said), given_is said, e) refl

  ends : (rows : List Row) (p : Option (Text × List Text)) (more : Option (List NamedText)) (position : ℕ) (tr : Bool) → Settles rows p more
      → comes_to (at idle position tr (hold rows p)) [] ≡ option_and_then (spelled None tr []) more
  unfolding walk_fault
  ends rows p more position tr (refuses bad is) = unless-or_else (settle_fault c false (hold rows p)) _ _ ∙ bad _ ∙ ap (option_and_then (spelled None tr [])) (sym is)
  ends rows p more position tr (gives said fine settles is) =
      let rows_are : finished c (hold rows p) ≡ rows_for said = ap (λ (h : Held). fold with_default h.rows c) settles ∙ no_default names (rows_for said) in
      let fine_end : at_end (hold rows p) ≡ check_fault s (rows_for said) false =
      ap₂ or_else fine (ap₂ or_else (ap (λ (h : Held). defaults_fault h.rows c) settles ∙ no_default_fault names (rows_for said)) (ap (λ r. check_fault s r false) rows_are)) in
      ap₂ (λ (k : Kinds) (r : List Row). unless k (Some r)) fine_end rows_are ∙ end_first (has_name word_name said) said refl ∙ ap (option_and_then (spelled None tr [])) (sym is)

  -- ---- a word for the positional

  has_name-last : (name : Text) (said : List NamedText) (p : NamedText) → has_name name (said ++ p ∷ []) ≡ (has_name name said || bytes_eq p.0 name)
  has_name-last name [] p = or_false (bytes_eq p.0 name)
  has_name-last name (q ∷ said) p = ap (λ b. bytes_eq q.0 name || b) (has_name-last name said p) ∙ sym (or_assoc (bytes_eq q.0 name) (has_name name said) (bytes_eq p.0 name))

  -- what is known of the words to come
  pub record Reads (words : List Text) : Type 0 where
    pub between : (rows : List Row) (p : Option (Text × List Text)) (more : Option (List NamedText)) (has_word tr : Bool) → Settles rows p more
        → ((said : List NamedText) → more ≡ Some said → has_name word_name said ≡ has_word)
        → comes_to (at idle (place has_word) tr (hold rows p)) words ≡ option_and_then (spelled None tr words) more
    pub waits : (said : List NamedText) (name : Text) (has_word : Bool) → is_among name names ≡ true → has_name word_name said ≡ has_word
        → comes_to (at (option name) (place has_word) false (hold (rows_for said) (Some (name, [])))) words ≡ spelled (Some name) false words said

  -- ---- a word at a time

  option_apart : (b : Bool) (name : Text) → bytes_eq name word_name ≡ b → is_among name names ≡ true → is_among word_name names ≡ false → b ≡ false
  option_apart false name e h apart = refl
  option_apart true name e h apart = absurd (true≢false (sym h ∙ ap (λ n. is_among n names) (same_text name word_name e) ∙ apart))

  -- `complete` at the end, as `spelled` has it
  spelled_later : (tr : Bool) (words : List Text) (more : Option (List NamedText)) → option_and_then (spelled None tr words) more ≡ option_and_then complete (option_and_then (λ m. reads is_flag names None tr m words) more)
  spelled_later tr words None = refl
  spelled_later tr words (Some m) = refl

  -- a word that no option takes, where the walk is met by it
  module _ (apart : is_among word_name names ≡ false) (word : Text) (rest : List Text) (later : Reads rest) where
    spells_word : Option Text → Bool → List NamedText → Option (List Row)
    spells_word waits tr said = option_and_then complete (option_and_then (λ more. reads is_flag names None tr more rest) (with_text (word_name, word) said))

    word_after : Bool → List Row → Option (Text × List Text) → Held × Step
    word_after tr rows p = (hold rows p, value)

    pending_settles : (rows : List Row) (p : Option (Text × List Text)) (tr : Bool) (x : Option (List Row)) → unless (positional_fault c false word_rule (hold rows p)) x ≡ unless (settle_fault c false (hold rows p)) x
    pending_settles rows p tr x = rw (and_false (is_pending word_rule p)) refl

    -- the word where none was before
    held_word : (rows : List Row) (p : Option (Text × List Text)) (said : List NamedText) → settled c (hold rows p) ≡ hold (rows_for said) None
        → positional_held c word_rule word (hold rows p) ≡ hold (rows_for said) (Some (word_name, word ∷ []))
    held_word rows p said settles =
        ap (λ b. pushed word_name word (cond b (hold rows p) (settled c (hold rows p)))) (and_false (is_pending word_rule p)) ∙ ap (pushed word_name word) settles

    seen_then : (said after : List NamedText) → with_text (word_name, word) said ≡ Some after → has_name word_name said ≡ false → has_name word_name after ≡ true
    seen_then said after is none =
        let same : Some (said ++ (word_name, word) ∷ []) ≡ Some after = rw none at is in
        ap (λ (o : Option (List NamedText)). option_map_or (has_name word_name) o true) (sym same) ∙ has_name-last word_name said (word_name, word) ∙ or_true (has_name word_name said)

    first_word : (rows : List Row) (p : Option (Text × List Text)) (said : List NamedText) (tr : Bool) → settle_fault c false (hold rows p) ≡ [] → settled c (hold rows p) ≡ hold (rows_for said) None
        → has_name word_name said ≡ false
        → unless (step_fault s 1 (hold rows p) value) (comes_to (after_step c word (at idle 1 tr (hold rows p)) (hold rows p) value) rest)
        ≡ option_and_then complete (option_and_then (λ more. reads is_flag names None tr more rest) (with_text (word_name, word) said))
    first_word rows p said tr fine settles none =
        let met : comes_to (after_step c word (at idle 1 tr (hold rows p)) (hold rows p) value) rest ≡ comes_to (at idle 2 tr (hold (rows_for said) (Some (word_name, word ∷ [])))) rest
        = rw (by_first_index names) (ap₂ (λ (h : Held) (b : Bool). comes_to (at idle 2 b h) rest) (held_word rows p said settles) (or_false tr)) in
        let fault : unless (step_fault s 1 (hold rows p) value) (comes_to (after_step c word (at idle 1 tr (hold rows p)) (hold rows p) value) rest) ≡ comes_to (after_step c word (at idle 1 tr (hold rows p)) (hold rows p) value) rest
        = ap (λ a. unless (option_map_or (λ a. positional_fault c false a (hold rows p)) a (stray_fault s)) (comes_to (after_step c word (at idle 1 tr (hold rows p)) (hold rows p) value) rest)) (by_first_index names) ∙ pending_settles rows p tr _ ∙ ap (λ k. unless k (comes_to (after_step c word (at idle 1 tr (hold rows p)) (hold rows p) value) rest)) fine in
        fault ∙ met ∙ later.between (rows_for said) (Some (word_name, word ∷ [])) (with_text (word_name, word) said) true tr (settles_one said word_name word (word_known names apart)) (λ after is. seen_then said after is none)
        ∙ spelled_later tr rest (with_text (word_name, word) said)

    takes_word : (rows : List Row) (p : Option (Text × List Text)) (more : Option (List NamedText)) (has_word tr : Bool) → Settles rows p more
        → ((said : List NamedText) → more ≡ Some said → has_name word_name said ≡ has_word)
        → unless (step_fault s (place has_word) (hold rows p) value) (comes_to (after_step c word (at idle (place has_word) tr (hold rows p)) (hold rows p) value) rest)
        ≡ option_and_then (λ said. option_and_then complete (option_and_then (λ more. reads is_flag names None tr more rest) (with_text (word_name, word) said))) more
    takes_word rows p more true tr (refuses bad is) seen = rw (by_second_index names, is) refl
    takes_word rows p more true tr (gives said fine settles is) seen = rw (by_second_index names, is, seen said is) refl
    takes_word rows p more false tr (refuses bad is) seen = rw (by_first_index names, is) (pending_settles rows p tr _ ∙ bad _)
    takes_word rows p more false tr (gives said fine settles is) seen = rw is (first_word rows p said tr fine settles (seen said is))

  -- ---- the whole walk, backwards over the words

  unless_ok : {X : Type 0} (k : Kinds) (x y : Option X) → k ≡ [] → x ≡ y → unless k x ≡ y
  unless_ok k x y none same = rw none same

  none_spelled : (words : List Text) (tr : Bool) (more : Option (List NamedText)) → more ≡ None → None ≡ option_and_then (spelled None tr words) more
  none_spelled words tr more is = rw is refl

  -- the command's option that the word names
  named_wrong : (waiting : Waiting) (word : Text) (rows : List Row) (p : Option (Text × List Text)) → bytes_eq word (codes "--") ≡ false → long_of word ≡ Some (name_in word, value_in word)
      → is_among (name_in word) names ≡ true → word_fault s [] false waiting word (hold rows p) ≡ option_fault c false (option_rule (name_in word)) (value_in word) (hold rows p)
  named_wrong waiting word rows p two long among = long_wrong waiting word (hold rows p) (name_in word) (value_in word) two long
      ∙ ap (λ b. long_fault c false (cond b (Some (option_rule (name_in word))) None) (value_in word) (hold rows p)) among

  named_met : (waiting : Waiting) (position : ℕ) (word : Text) (rows : List Row) (p : Option (Text × List Text)) → bytes_eq word (codes "--") ≡ false → long_of word ≡ Some (name_in word, value_in word)
      → is_among (name_in word) names ≡ true → word_met c [] false waiting position word (hold rows p)
      ≡ after_flag c waiting word (option_met c (option_rule (name_in word)) (value_in word) (hold rows p)).0 (option_met c (option_rule (name_in word)) (value_in word) (hold rows p)).1
  named_met waiting position word rows p two long among = long_is waiting position word (hold rows p) (name_in word) (value_in word) two long
      ∙ ap (λ a. after_flag c waiting word (long_met c a (value_in word) (hold rows p)).0 (long_met c a (value_in word) (hold rows p)).1) (by_long names (name_in word) ∙ ap (λ b. cond b (Some (option_rule (name_in word))) None) among)

  option_bad : (rows : List Row) (p : Option (Text × List Text)) → ((x : Option (List Row)) → unless (settle_fault c false (hold rows p)) x ≡ None)
      → (name : Text) (v : Option Text) (x : Option (List Row)) → unless (option_fault c false (option_rule name) v (hold rows p)) x ≡ None
  option_bad rows p bad name None x = bad x
  option_bad rows p bad name (Some v) x = unless-or_else (settle_fault c false (hold rows p)) _ x ∙ bad _

  positional_settles : (rows : List Row) (p : Option (Text × List Text)) (x : Option (List Row)) → unless (positional_fault c false word_rule (hold rows p)) x ≡ unless (settle_fault c false (hold rows p)) x
  positional_settles rows p x = rw (and_false (is_pending word_rule p)) refl

  -- an option without its value stays so after `--`
  stuck_by : (has_word : Bool) (rows : List Row) (p : Option (Text × List Text)) (x : Option (List Row)) → ((y : Option (List Row)) → unless (settle_fault c false (hold rows p)) y ≡ None)
      → unless (step_fault s (place has_word) (hold rows p) value) x ≡ None
  stuck_by true rows p x bad = rw (by_second_index names) refl
  stuck_by false rows p x bad = rw (by_first_index names) (positional_settles rows p x ∙ bad x)

  stuck : (rest : List Text) (name : Text) (has_word tr : Bool) (rows : List Row) (p : Option (Text × List Text)) → ((x : Option (List Row)) → unless (settle_fault c false (hold rows p)) x ≡ None)
      → tr ≡ true → comes_to (at (option name) (place has_word) tr (hold rows p)) rest ≡ None
  unfolding walk_fault
  stuck [] name has_word tr rows p bad is = unless-or_else (settle_fault c false (hold rows p)) _ _ ∙ bad _
  stuck (word ∷ rest) name has_word tr rows p bad is =
      turn_by (option name) (place has_word) tr (hold rows p) word rest (hold rows p, value) [] (rw is refl) (rw is refl)
      ∙ stuck_by has_word rows p _ bad

  seen_option : (b : Bool) (said after : List NamedText) (name text : Text) → has_name name said ≡ b → with_text (name, text) said ≡ Some after → is_among name names ≡ true → is_among word_name names ≡ false
      → has_name word_name after ≡ has_name word_name said
  seen_option true said after name text e is among apart = let bad : None ≡ Some after = rw e at is in cc
  seen_option false said after name text e is among apart =
      let same : Some (said ++ (name, text) ∷ []) ≡ Some after = rw e at is in
      ap (λ (o : Option (List NamedText)). option_map_or (has_name word_name) o true) (sym same) ∙ has_name-last word_name said (name, text)
      ∙ ap (λ b. has_name word_name said || b) (option_apart (bytes_eq name word_name) name refl among apart) ∙ or_false (has_name word_name said)

  option_word_is : (said : List NamedText) (name word : Text) → IsKnown names name
      → plain_word c (option name) word (hold (rows_for said) (Some (name, []))) ≡ (hold (rows_for said) (Some (name, word ∷ [])), next idle)
  option_word_is said name word known = rw (known.found, bytes_eq-self name) refl

  -- an option with its value, where nothing waits
  option_used : (b : Bool) (said : List NamedText) (name text : Text) (x : Option (List Row)) → has_name name said ≡ b
      → unless (use_fault false (option_rule name) (text ∷ []) (rows_for said)) x ≡ cond b None x
  option_used true said name text x e = rw (has_row-named name said, e) refl
  option_used false said name text x e = rw (has_row-named name said, e) refl

  module _ (apart : is_among word_name names ≡ false) (word : Text) (rest : List Text) (later : Reads rest) where
    -- the parts that the words from here on spell, by what the word looks like
    spells_two : (tr : Bool) (said : List NamedText) → bytes_eq word (codes "--") ≡ true → spelled None false (word ∷ rest) said ≡ spelled None true rest said
    spells_two tr said e = rw e refl

    spells_value : (said : List NamedText) (v : Text) → bytes_eq word (codes "--") ≡ false → is_option names word ≡ true → value_in word ≡ Some v
        → spelled None false (word ∷ rest) said ≡ option_and_then complete (option_and_then (λ more. reads is_flag names None false more rest) (with_text (name_in word, v) said))
    spells_value said v two opt val = rw (two, opt, val) refl

    spells_wait : (said : List NamedText) → bytes_eq word (codes "--") ≡ false → is_option names word ≡ true → value_in word ≡ None
        → spelled None false (word ∷ rest) said ≡ spelled (Some (name_in word)) false rest said
    spells_wait said two opt val = rw (two, opt, val) refl

    spells_none : (said : List NamedText) → bytes_eq word (codes "--") ≡ false → is_option names word ≡ false → is_flag word ≡ true → spelled None false (word ∷ rest) said ≡ None
    spells_none said two opt flag = rw (two, opt, flag) refl

    spells_plain : (said : List NamedText) → bytes_eq word (codes "--") ≡ false → is_option names word ≡ false → is_flag word ≡ false
        → spelled None false (word ∷ rest) said ≡ option_and_then complete (option_and_then (λ more. reads is_flag names None false more rest) (with_text (word_name, word) said))
    spells_plain said two opt flag = rw (two, opt, flag) refl

    each_more : (f g : List NamedText → Option (List Row)) (more : Option (List NamedText)) → ((said : List NamedText) → f said ≡ g said) → option_and_then f more ≡ option_and_then g more
    each_more f g None same = refl
    each_more f g (Some said) same = same said

    all_none : (f : List NamedText → Option (List Row)) (more : Option (List NamedText)) → ((said : List NamedText) → f said ≡ None) → None ≡ option_and_then f more
    all_none f None none = refl
    all_none f (Some said) none = sym (none said)

    -- `--name=value`
    value_first : (b : Bool) (rows : List Row) (p : Option (Text × List Text)) (said : List NamedText) (has_word : Bool) (name v : Text) → is_among name names ≡ true
        → settle_fault c false (hold rows p) ≡ [] → settled c (hold rows p) ≡ hold (rows_for said) None → has_name word_name said ≡ has_word → has_name name said ≡ b
        → unless (react_fault c false (option_rule name) (v ∷ []) (hold rows p)) (comes_to (at idle (place has_word) false (reacted c (option_rule name) (v ∷ []) (hold rows p))) rest)
        ≡ option_and_then complete (option_and_then (λ more. reads is_flag names None false more rest) (with_text (name, v) said))
    value_first true rows p said has_word name v among fine settles seen e =
        unless-or_else (settle_fault c false (hold rows p)) _ _
        ∙ ap₂ (λ (k : Kinds) (h : Held). unless k (unless (use_fault false (option_rule name) (v ∷ []) h.rows) (comes_to (at idle (place has_word) false (reacted c (option_rule name) (v ∷ []) (hold rows p))) rest))) fine settles
        ∙ option_used true said name v _ e ∙ rw e refl
    value_first false rows p said has_word name v among fine settles seen e =
        let held : reacted c (option_rule name) (v ∷ []) (hold rows p) ≡ hold (rows_for (said ++ (name, v) ∷ [])) None
        = ap (λ (h : Held). hold (used (option_rule name) (v ∷ []) h.rows) None) settles ∙ ap (λ r. hold r None) (used_last said name v (Some name) None false e) in
        let no_word : bytes_eq name word_name ≡ false = option_apart (bytes_eq name word_name) name refl among apart in
        let still : has_name word_name (said ++ (name, v) ∷ []) ≡ has_word = has_name-last word_name said (name, v) ∙ ap (λ b. has_name word_name said || b) no_word ∙ or_false (has_name word_name said) ∙ seen in
        let next_is : comes_to (at idle (place has_word) false (hold (rows_for (said ++ (name, v) ∷ [])) None)) rest ≡ spelled None false rest (said ++ (name, v) ∷ [])
        = later.between (rows_for (said ++ (name, v) ∷ [])) None (Some (said ++ (name, v) ∷ [])) has_word false (settles_alone (said ++ (name, v) ∷ []))
        (λ after is. ap (λ (o : Option (List NamedText)). option_map_or (has_name word_name) o false) (sym is) ∙ still) in
        unless-or_else (settle_fault c false (hold rows p)) _ _
        ∙ ap₂ (λ (k : Kinds) (h : Held). unless k (unless (use_fault false (option_rule name) (v ∷ []) h.rows) (comes_to (at idle (place has_word) false (reacted c (option_rule name) (v ∷ []) (hold rows p))) rest))) fine settles
        ∙ option_used false said name v _ e ∙ ap (λ h. comes_to (at idle (place has_word) false h) rest) held ∙ next_is ∙ rw e refl

    -- an option, where nothing waits
    more_named : (rows : List Row) (p : Option (Text × List Text)) (more : Option (List NamedText)) (has_word : Bool) → Settles rows p more
        → ((said : List NamedText) → more ≡ Some said → has_name word_name said ≡ has_word)
        → bytes_eq word (codes "--") ≡ false → long_of word ≡ Some (name_in word, value_in word) → is_among (name_in word) names ≡ true → is_option names word ≡ true
        → (v : Option Text) → value_in word ≡ v
        → comes_to (at idle (place has_word) false (hold rows p)) (word ∷ rest) ≡ option_and_then (spelled None false (word ∷ rest)) more
    more_named rows p more has_word (refuses bad is) seen two long among opt v val =
        fails_at idle (place has_word) (hold rows p) word rest (option_fault c false (option_rule (name_in word)) (value_in word) (hold rows p))
        (named_wrong idle word rows p two long among) (λ x. option_bad rows p bad (name_in word) (value_in word) x)
        ∙ none_spelled (word ∷ rest) false more is
    more_named rows p more has_word (gives said fine settles is) seen two long among opt (Some v) val =
        turn_by idle (place has_word) false (hold rows p) word rest (reacted c (option_rule (name_in word)) (v ∷ []) (hold rows p), next idle) (react_fault c false (option_rule (name_in word)) (v ∷ []) (hold rows p))
        (named_met idle (place has_word) word rows p two long among ∙ ap (λ o. after_flag c idle word (option_met c (option_rule (name_in word)) o (hold rows p)).0 (option_met c (option_rule (name_in word)) o (hold rows p)).1) val)
        (named_wrong idle word rows p two long among ∙ ap (λ o. option_fault c false (option_rule (name_in word)) o (hold rows p)) val)
        ∙ value_first (has_name (name_in word) said) rows p said has_word (name_in word) v among fine settles (seen said is) refl
        ∙ sym (spells_value said v two opt val) ∙ ap (option_and_then (spelled None false (word ∷ rest))) (sym is)
    more_named rows p more has_word (gives said fine settles is) seen two long among opt None val =
        turn_by idle (place has_word) false (hold rows p) word rest (record (settled c (hold rows p)) { pending = Some (name_in word, []) }, next (option (name_in word))) (settle_fault c false (hold rows p))
        (named_met idle (place has_word) word rows p two long among ∙ ap (λ o. after_flag c idle word (option_met c (option_rule (name_in word)) o (hold rows p)).0 (option_met c (option_rule (name_in word)) o (hold rows p)).1) val)
        (named_wrong idle word rows p two long among ∙ ap (λ o. option_fault c false (option_rule (name_in word)) o (hold rows p)) val)
        ∙ ap₂ (λ (k : Kinds) (h : Held). unless k (comes_to (at (option (name_in word)) (place has_word) false (record h { pending = Some (name_in word, []) })) rest)) fine settles
        ∙ later.waits said (name_in word) has_word among (seen said is)
        ∙ sym (spells_wait said two opt val) ∙ ap (option_and_then (spelled None false (word ∷ rest))) (sym is)

    -- the next word between two parts, before `--`
    more_between : (rows : List Row) (p : Option (Text × List Text)) (more : Option (List NamedText)) (has_word : Bool) → Settles rows p more
        → ((said : List NamedText) → more ≡ Some said → has_name word_name said ≡ has_word) → Looks names word
        → comes_to (at idle (place has_word) false (hold rows p)) (word ∷ rest) ≡ option_and_then (spelled None false (word ∷ rest)) more
    more_between rows p more has_word st seen (two_dashes two) =
        turn_by idle (place has_word) false (hold rows p) word rest (hold rows p, trailing (place has_word)) [] (met_by idle (place has_word) word (hold rows p) ∙ rw two refl) (fault_by idle word (hold rows p) ∙ rw two refl)
        ∙ later.between rows p more has_word true st seen ∙ each_more _ _ more (λ said. sym (spells_two true said two))
    more_between rows p more has_word st seen (unnamed name v two long none opt dash) =
        unnamed_fails idle (place has_word) (hold rows p) word rest name v two long none
        ∙ all_none _ more (λ said. spells_none said two opt (flag_long word name v two long))
    more_between rows p more has_word st seen (bundled flags x xs two long short some opt dash) =
        bundled_fails idle (place has_word) rows p word rest flags x xs two long short some
        ∙ all_none _ more (λ said. spells_none said two opt (flag_short word flags x xs two long short some))
    more_between rows p more has_word st seen (dashed two long none opt dash) =
        turn_by idle (place has_word) false (hold rows p) word rest (hold rows p, value) [] (plain_is idle (place has_word) word rows p two long none) (plain_right idle word rows p two long none)
        ∙ takes_word apart word rest later rows p more has_word false st seen ∙ each_more _ _ more (λ said. sym (spells_plain said two opt (no_flag word two long none)))
    more_between rows p more has_word st seen (plain_look two long none opt dash) =
        let none_too : is_bundle (short_of word) ≡ false = rw none refl in
        turn_by idle (place has_word) false (hold rows p) word rest (hold rows p, value) [] (plain_is idle (place has_word) word rows p two long none_too) (plain_right idle word rows p two long none_too)
        ∙ takes_word apart word rest later rows p more has_word false st seen ∙ each_more _ _ more (λ said. sym (spells_plain said two opt (no_flag word two long none_too)))
    more_between rows p more has_word st seen (named two long among opt) = more_named rows p more has_word st seen two long among opt (value_in word) refl

    spells_flag : (said : List NamedText) (name : Text) → is_flag word ≡ true → spelled (Some name) false (word ∷ rest) said ≡ None
    spells_flag said name flag = rw flag refl

    spells_text : (said : List NamedText) (name : Text) → is_flag word ≡ false
        → spelled (Some name) false (word ∷ rest) said ≡ option_and_then complete (option_and_then (λ more. reads is_flag names None false more rest) (with_text (name, word) said))
    spells_text said name flag = rw flag refl

    text_waited : (said : List NamedText) (name : Text) (has_word : Bool) → is_among name names ≡ true → has_name word_name said ≡ has_word
        → bytes_eq word (codes "--") ≡ false → long_of word ≡ None → is_bundle (short_of word) ≡ false
        → comes_to (at (option name) (place has_word) false (hold (rows_for said) (Some (name, [])))) (word ∷ rest) ≡ spelled (Some name) false (word ∷ rest) said
    text_waited said name has_word among seen two long none =
        let known = option_known names name among in
        turn_by (option name) (place has_word) false (hold (rows_for said) (Some (name, []))) word rest (hold (rows_for said) (Some (name, word ∷ [])), next idle) []
        (plain_is (option name) (place has_word) word (rows_for said) (Some (name, [])) two long none ∙ option_word_is said name word known)
        (plain_right (option name) word (rows_for said) (Some (name, [])) two long none)
        ∙ later.between (rows_for said) (Some (name, word ∷ [])) (with_text (name, word) said) has_word false (settles_one said name word known)
        (λ after is. seen_option (has_name name said) said after name word refl is among apart ∙ seen)
        ∙ spelled_later false rest (with_text (name, word) said) ∙ sym (spells_text said name (no_flag word two long none))

    -- the next word where an option waits for its value
    more_waiting : (said : List NamedText) (name : Text) (has_word : Bool) → is_among name names ≡ true → has_name word_name said ≡ has_word → Looks names word
        → comes_to (at (option name) (place has_word) false (hold (rows_for said) (Some (name, [])))) (word ∷ rest) ≡ spelled (Some name) false (word ∷ rest) said
    more_waiting said name has_word among seen (two_dashes two) =
        turn_by (option name) (place has_word) false (hold (rows_for said) (Some (name, []))) word rest (hold (rows_for said) (Some (name, [])), trailing (place has_word)) []
        (met_by (option name) (place has_word) word (hold (rows_for said) (Some (name, []))) ∙ rw two refl) (fault_by (option name) word (hold (rows_for said) (Some (name, []))) ∙ rw two refl)
        ∙ stuck rest name has_word true (rows_for said) (Some (name, [])) (settles_none said name (option_known names name among)) refl
        ∙ sym (spells_flag said name (flag_two word two))
    more_waiting said name has_word among seen (named two long among_too opt) =
        fails_at (option name) (place has_word) (hold (rows_for said) (Some (name, []))) word rest _ (named_wrong (option name) word (rows_for said) (Some (name, [])) two long among_too)
        (λ x. option_bad (rows_for said) (Some (name, [])) (settles_none said name (option_known names name among)) (name_in word) (value_in word) x)
        ∙ sym (spells_flag said name (flag_long word (name_in word) (value_in word) two long))
    more_waiting said name has_word among seen (unnamed other v two long none opt dash) =
        unnamed_fails (option name) (place has_word) (hold (rows_for said) (Some (name, []))) word rest other v two long none ∙ sym (spells_flag said name (flag_long word other v two long))
    more_waiting said name has_word among seen (bundled flags x xs two long short some opt dash) =
        bundled_fails (option name) (place has_word) (rows_for said) (Some (name, [])) word rest flags x xs two long short some
        ∙ sym (spells_flag said name (flag_short word flags x xs two long short some))
    more_waiting said name has_word among seen (dashed two long none opt dash) = text_waited said name has_word among seen two long none
    more_waiting said name has_word among seen (plain_look two long none opt dash) = text_waited said name has_word among seen two long (rw none refl)

    more_either : (rows : List Row) (p : Option (Text × List Text)) (more : Option (List NamedText)) (has_word tr : Bool) → Settles rows p more
        → ((said : List NamedText) → more ≡ Some said → has_name word_name said ≡ has_word)
        → comes_to (at idle (place has_word) tr (hold rows p)) (word ∷ rest) ≡ option_and_then (spelled None tr (word ∷ rest)) more
    more_either rows p more has_word false st seen = more_between rows p more has_word st seen (looks names word)
    more_either rows p more has_word true st seen =
        turn_by idle (place has_word) true (hold rows p) word rest (hold rows p, value) [] refl refl ∙ takes_word apart word rest later rows p more has_word true st seen

  none_left : (name : Text) (position : ℕ) (said : List NamedText) → IsKnown names name → comes_to (at (option name) position false (hold (rows_for said) (Some (name, [])))) [] ≡ None
  unfolding walk_fault
  none_left name position said known = unless-or_else (settle_fault c false (hold (rows_for said) (Some (name, [])))) _ _ ∙ settles_none said name known _

  pub reads_all : is_among word_name names ≡ false → (words : List Text) → Reads words
  reads_all apart [] = record {
    between = λ rows p more has_word tr st seen. ends rows p more (place has_word) tr st;
    waits = λ said name has_word among seen. none_left name (place has_word) said (option_known names name among);
  }
  reads_all apart (word ∷ rest) = record {
    between = λ rows p more has_word tr st seen. more_either apart word rest (reads_all apart rest) rows p more has_word tr st seen;
    waits = λ said name has_word among seen. more_waiting apart word rest (reads_all apart rest) said name has_word among seen (looks names word);
  }

  -- the whole walk
  pub walk_reads : is_among word_name names ≡ false → (words : List Text) → comes_to (walk_from nothing_held) words ≡ spelled None false words []
  walk_reads apart words = (reads_all apart words).between [] None (Some []) false false (settles_alone [])
      (λ said is. ap (λ (o : Option (List NamedText)). option_map_or (has_name word_name) o false) (sym is))
