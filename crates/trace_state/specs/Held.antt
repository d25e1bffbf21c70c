-- The members and the items that are held under way.
use Rattle.std.specs.Prelude.{List, map}
use Rattle.serde_json.specs.Data.{Data, Members as MembersData}
use Rattle.serde_json.specs.View.{members_view, view}
use Rattle.trace_state.specs.declared.json.Items.{Items}
use Rattle.trace_state.specs.declared.json.Members.{Members}

-- the members of an object so far
abbrev pub members_in : Members → MembersData
members_in m = members_view m.map.entries

-- the items of a list so far
abbrev pub items_in : Items → List Data
items_in i = map view i.list.items
