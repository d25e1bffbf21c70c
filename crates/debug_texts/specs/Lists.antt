-- The lists of threads and of modules, and the map of the memory ("Thread List Format", "Library List Format" and "Memory
-- Map Format" in the GDB manual).
use Rattle.std.specs.Prelude.{ℕ, List, [], ◌∷◌, ◌++◌, codes}
use Rattle.std.specs.Fmt.{decimal}
use Rattle.debug_wire.specs.Numbers.{hex_text}
use Rattle.debug_texts.specs.Xml.{xml}

-- a thread: its id, its name, and words on its state
pub record ThreadRow : Type 0 where
  pub id : ℕ
  pub name : List ℕ
  pub words : List ℕ

unfoldable pub thread_text : ThreadRow → List ℕ
thread_text thread = codes "<thread id=\"" ++ (hex_text thread.id ++ (codes "\" name=\"" ++ (xml thread.name ++ (codes "\">" ++ (xml thread.words ++ codes "</thread>")))))

abbrev pub thread_rows : List ThreadRow → List ℕ
thread_rows [] = []
thread_rows (thread ∷ threads) = thread_text thread ++ thread_rows threads

-- what begins and what ends the list of threads
unfoldable pub threads_start : List ℕ
threads_start = codes "<?xml version=\"1.0\"?><threads>"

unfoldable pub threads_end : List ℕ
threads_end = codes "</threads>"

-- the list of threads
abbrev pub threads_text : List ThreadRow → List ℕ
threads_text threads = threads_start ++ (thread_rows threads ++ threads_end)

-- a section of a module, by its address
unfoldable pub section_text : ℕ → List ℕ
section_text address = codes "<section address=\"0x" ++ (hex_text address ++ codes "\"/>")

-- the sections of a module
abbrev pub sections_text : List ℕ → List ℕ
sections_text [] = []
sections_text (address ∷ addresses) = section_text address ++ sections_text addresses

-- a loaded module: its id, its name, and the addresses of its sections
pub record LibraryRow : Type 0 where
  pub id : ℕ
  pub name : List ℕ
  pub sections : List ℕ

-- the directory of a module's file: its id in decimal digits, between two slashes
abbrev pub directory : ℕ → List ℕ
directory id = codes "/" ++ (decimal id ++ codes "/")

-- the path of a module's file: `/ID/NAME`, so that two modules of one name are told apart
abbrev pub library_path : ℕ → List ℕ → List ℕ
library_path id name = directory id ++ name

unfoldable pub library_text : LibraryRow → List ℕ
library_text library =
    codes "<library name=\"" ++ (directory library.id ++ (xml library.name ++ (codes "\">" ++ (sections_text library.sections ++ codes "</library>"))))

abbrev pub library_rows : List LibraryRow → List ℕ
library_rows [] = []
library_rows (library ∷ libraries) = library_text library ++ library_rows libraries

-- what begins and what ends the list of loaded modules
unfoldable pub libraries_start : List ℕ
libraries_start = codes "<?xml version=\"1.0\"?><library-list version=\"1.0\">"

unfoldable pub libraries_end : List ℕ
libraries_end = codes "</library-list>"

-- the list of loaded modules
abbrev pub libraries_text : List LibraryRow → List ℕ
libraries_text libraries = libraries_start ++ (library_rows libraries ++ libraries_end)

-- the map of a memory of so many bytes from address 0 on, which can only be read
unfoldable pub memory_map : ℕ → List ℕ
memory_map bytes =
    codes "<?xml version=\"1.0\"?><memory-map>"
    ++ (codes "<memory type=\"rom\" start=\"0x0\" length=\"0x" ++ (hex_text bytes ++ codes "\"/></memory-map>"))
