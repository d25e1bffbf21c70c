-- Objects and lists of JSON.
use Rattle.std.specs.Prelude.{ℕ, List, [], ◌∷◌, map, Option, None, Some}
use Rattle.serde_json.specs.Data.{Data, null, number, string, array, object, unsigned, Members, no_members, put}
use Rattle.serde_json.specs.View.{items_of}
use Rattle.trace_text.specs.Pieces.{escaped}

-- the members of an object, with this value at a key
unfoldable pub with_member : List ℕ → Data → Members → Members
with_member key value members = put key value members

-- the same for several keys, each with its value
abbrev pub with_all : List (List ℕ × Data) → Members → Members
with_all [] members = members
with_all (m ∷ ms) members = with_all ms (with_member m.0 m.1 members)

-- the object with these keys and values
abbrev pub object_of : List (List ℕ × Data) → Data
object_of ms = object (with_all ms no_members)

-- a list of values
abbrev pub list_of : {X : Type 0} → (X → Data) → List X → Data
list_of f xs = array (items_of (map f xs))

-- a number
abbrev pub number_of : ℕ → Data
number_of n = number (unsigned n)

-- a number, or null
abbrev pub number_or_null : Option ℕ → Data
number_or_null None = null
number_or_null (Some n) = number_of n

-- bytes as a string
abbrev pub text_of : List ℕ → Data
text_of bytes = string (escaped bytes)
