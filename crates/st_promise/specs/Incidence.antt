-- The links of each device, the last first.
use Rattle.std.specs.Prelude.{◌≡◌, ℕ, ◌<◌, zero, suc, ◌||◌, ◌==◌, Bool, List, length, slice_index_or, Option, Some, None, if◌then◌else◌}
use Rattle.st_net.specs.declared.topo.LinkOpening.{LinkOpening}
use Rattle.st_net.specs.Groups.{no_link}
use Rattle.st_promise.specs.declared.incidence.Earlier.{Earlier}

-- the last link of each device, and for each link those before it at its two ends
pub record Chains : Type 0 where
  pub last : List (Option ℕ)
  pub earlier : List Earlier

-- what a list of links has past its end
abbrev pub no_earlier : Earlier
no_earlier = record { a = None; b = None }

-- whether a device is an end of a link
abbrev pub has_end : ℕ → LinkOpening → Bool
has_end d link = link.a == d || link.b == d

-- the last of the first n links with this end
abbrev pub last_at : List LinkOpening → ℕ → ℕ → Option ℕ
last_at links zero d = None
last_at links (suc n) d = if has_end d (slice_index_or links n no_link) then Some n else last_at links n d

-- the chains of the first m links of a group with n devices
pub record AreChains (n : ℕ) (links : List LinkOpening) (m : ℕ) (last : List (Option ℕ)) (earlier : List Earlier) : Type 0 where
  pub devices : length last ≡ n
  pub one_each : length earlier ≡ m
  pub last_is : (d : ℕ) → d < n → slice_index_or last d None ≡ last_at links m d
  pub a_is : (i : ℕ) → i < m → (slice_index_or earlier i no_earlier).a ≡ last_at links i (slice_index_or links i no_link).a
  pub b_is : (i : ℕ) → i < m → (slice_index_or earlier i no_earlier).b ≡ last_at links i (slice_index_or links i no_link).b

-- the chains of all links
abbrev pub IsIncidence : ℕ → List LinkOpening → Chains → Type 0
IsIncidence n links chains = AreChains n links (length links) chains.last chains.earlier

-- how many links may be left in a chain
abbrev pub links_left : Option ℕ → ℕ
links_left None = 0
links_left (Some link) = suc link
