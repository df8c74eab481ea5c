-- The values of JSON that a picture is made of.
use Rattle.std.specs.Prelude.{ℕ, Bool, List, [], ◌∷◌, Option, Some, None, map, if◌then◌else◌}
use Rattle.serde_json.specs.Data.{Data, null, number, unsigned, array, Members, put}
use Rattle.serde_json.specs.View.{items_of}

abbrev pub number_data : ℕ → Data
number_data n = number (unsigned n)

-- 1 for yes, 0 for no
abbrev pub flag_data : Bool → Data
flag_data b = number_data (if b then 1 else 0)

abbrev pub list_data : List Data → Data
list_data ds = array (items_of ds)

abbrev pub numbers_data : List ℕ → Data
numbers_data ns = list_data (map number_data ns)

-- a number, or null where there is none
abbrev pub number_or_null : Option ℕ → Data
number_or_null None = null
number_or_null (Some n) = number_data n

-- the members with one more, where the test says so
abbrev pub put_where : Bool → List ℕ → Data → Members → Members
put_where b key d ms = if b then put key d ms else ms

-- with one more, where there is one
abbrev pub put_some : List ℕ → Option Data → Members → Members
put_some key None ms = ms
put_some key (Some d) ms = put key d ms

-- with a list more, where it is not empty
abbrev pub put_list : List ℕ → List Data → Members → Members
put_list key [] ms = ms
put_list key (d ∷ ds) ms = put key (list_data (d ∷ ds)) ms
