-- Requests, and whose they are.
use Rattle.std.specs.Prelude.{ℕ, suc, Bool, true, false, ◌==◌, ◌&&◌, List, [], ◌∷◌, Option, Some, None, slice_get, if◌then◌else◌}
use Rattle.st_event.specs.declared.event.Event.{Event}
use Rattle.st_event.specs.declared.event.Event.TheVariants.{Submit, Check, Lock, Unlock, Send, Deliver, Finish, Report, Hear, Fail, Withdraw}
use Rattle.st_event.specs.declared.journal.Entry.{Entry}
use Rattle.st_service.specs.Made.{Made}

-- the application that an event names, where it is a request: a proposal, or a lock asked for or given back
abbrev pub asker : Event → Option ℕ
asker (Submit app rows) = Some app.0
asker Check = None
asker (Lock app entity prio) = Some app.0
asker (Unlock app entity prio) = Some app.0
asker (Send entity) = None
asker (Deliver n) = None
asker (Finish entity) = None
asker (Report entity) = None
asker (Hear n) = None
asker (Fail entity vals health) = None
asker (Withdraw entity) = None

abbrev pub is_request : Option ℕ → Bool
is_request (Some app) = true
is_request None = false

abbrev pub is_of : ℕ → Option ℕ → Bool
is_of a (Some app) = app == a
is_of a None = false

-- no request, or one of this application
abbrev pub is_own : ℕ → Option ℕ → Bool
is_own a (Some app) = app == a
is_own a None = true

-- each request was made by the pass of the application that it names
abbrev pub all_asked : List Made → Bool
all_asked [] = true
all_asked (m ∷ ms) = is_own m.by (asker m.entry.event) && all_asked ms

-- none of these entries is another's request
abbrev pub all_own : ℕ → List Entry → Bool
all_own a [] = true
all_own a (e ∷ es) = is_own a (asker e.event) && all_own a es

-- the places, from i on, of the requests that name an application
abbrev pub requests_of : ℕ → ℕ → List Made → List ℕ
requests_of a i [] = []
requests_of a i (m ∷ ms) = if is_of a (asker m.entry.event) then i ∷ requests_of a (suc i) ms else requests_of a (suc i) ms

abbrev pub is_request_at : Option Made → Bool
is_request_at (Some m) = is_request (asker m.entry.event)
is_request_at None = false

-- those of these places that are of requests
abbrev pub requests_in : List Made → List ℕ → List ℕ
requests_in front [] = []
requests_in front (n ∷ ns) = if is_request_at (slice_get front n) then n ∷ requests_in front ns else requests_in front ns
