-- What is asked of the network: pairs of devices, each with a percentage of what the two can exchange with everything up. There is one for each
-- promise, under its number.
use Rattle.std.specs.Prelude.{ℕ, List, length, slice_index_or}
use Rattle.st_net.specs.declared.promise.Promise.{Promise}
use Rattle.st_net.specs.Groups.{Group, no_promise}

abbrev pub asks : Group → List Promise
asks g = g.promises

abbrev pub ask_count : Group → ℕ
ask_count g = length (asks g)

-- ask number i of a group
abbrev pub ask_of : Group → ℕ → Promise
ask_of g i = slice_index_or (asks g) i no_promise
