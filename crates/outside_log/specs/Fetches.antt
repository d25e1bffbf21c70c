-- The fetches that a log tells.
use Rattle.std.specs.Prelude.{List, Option, Vec, map, string_bytes}
use Rattle.std.specs.Option.{option_map}
use Rattle.std.specs.declared.alloc.Global.{Global}
use Rattle.wind_outside.specs.Requests.{Request}
use Rattle.outside_log.specs.declared.folder.LoggedFetch.{LoggedFetch}

-- an entry as a request
abbrev pub request_seen : LoggedFetch → Request
request_seen entry = record { name = string_bytes entry.name; limit = entry.limit; outcome = entry.outcome }

-- the requests of a log
abbrev pub requests_seen : Option (Vec LoggedFetch Global) → Option (List Request)
requests_seen log = option_map (λ entries. map request_seen entries.items) log
