-- Texts in XML.
use Rattle.std.specs.Prelude.{ℕ, ◌==◌, if◌then◌else◌, List, [], ◌∷◌, ◌++◌, codes}
use Prim.Native.Char.{code}

-- a byte of a text in XML: four bytes stand there by name
abbrev pub xml_byte : ℕ → List ℕ
xml_byte b =
    if b == code "&" then codes "&amp;"
    else (if b == code "<" then codes "&lt;"
    else (if b == code ">" then codes "&gt;"
    else (if b == code "\"" then codes "&quot;"
    else b ∷ [])))

-- bytes as a text in XML
abbrev pub xml : List ℕ → List ℕ
xml [] = []
xml (b ∷ bs) = xml_byte b ++ xml bs
