-- The numbers of the ELF format: System V ABI, edition 4.1, "Object Files", and the PowerPC Processor Supplement.
use Rattle.std.specs.Prelude.{ℕ, ◌/◌, ◌%◌, List, [], ◌∷◌}

-- ---- the ELF header
-- its size in bytes
abbrev pub ehdr_bytes : ℕ
ehdr_bytes = 52

-- the beginning of e_ident: the magic number, 32-bit objects, high byte first, the current version
abbrev pub ident : List ℕ
ident = 0x7f ∷ 0x45 ∷ 0x4c ∷ 0x46 ∷ 1 ∷ 2 ∷ 1 ∷ []

-- the places of its fields, as offsets in bytes
abbrev pub e_type : ℕ
e_type = 16

abbrev pub e_machine : ℕ
e_machine = 18

abbrev pub e_shoff : ℕ
e_shoff = 32

abbrev pub e_shentsize : ℕ
e_shentsize = 46

abbrev pub e_shnum : ℕ
e_shnum = 48

abbrev pub e_shstrndx : ℕ
e_shstrndx = 50

-- e_type of a relocatable file, and e_machine of PowerPC
abbrev pub et_rel : ℕ
et_rel = 1

abbrev pub em_ppc : ℕ
em_ppc = 20

-- ---- section headers
-- the size in bytes of a header, and the offset of its field sh_offset
abbrev pub shdr_bytes : ℕ
shdr_bytes = 40

abbrev pub sh_offset : ℕ
sh_offset = 16

-- sh_type
abbrev pub sht_null : ℕ
sht_null = 0

abbrev pub sht_progbits : ℕ
sht_progbits = 1

abbrev pub sht_symtab : ℕ
sht_symtab = 2

abbrev pub sht_strtab : ℕ
sht_strtab = 3

abbrev pub sht_rela : ℕ
sht_rela = 4

abbrev pub sht_note : ℕ
sht_note = 7

abbrev pub sht_nobits : ℕ
sht_nobits = 8

abbrev pub sht_rel : ℕ
sht_rel = 9

-- sh_flags: SHF_ALLOC, a section is loaded; SHF_INFO_LINK, its sh_info is a section number; SHF_TLS and SHF_COMPRESSED
abbrev pub shf_alloc : ℕ
shf_alloc = 2

abbrev pub shf_info_link : ℕ
shf_info_link = 0x40

abbrev pub shf_tls_or_compressed : ℕ
shf_tls_or_compressed = 0xc00

-- ---- the symbol table
-- the size in bytes of an entry
abbrev pub sym_bytes : ℕ
sym_bytes = 16

-- st_shndx of a symbol without a section: undefined, absolute, common
abbrev pub shn_undef : ℕ
shn_undef = 0

abbrev pub shn_abs : ℕ
shn_abs = 0xfff1

abbrev pub shn_common : ℕ
shn_common = 0xfff2

-- the binding and the type of a symbol in one byte, st_info: ELF32_ST_BIND and ELF32_ST_TYPE
abbrev pub st_bind : ℕ → ℕ
st_bind info = info / 16

abbrev pub st_type : ℕ → ℕ
st_type info = info % 16

-- the greatest binding and the greatest type that the ABI defines: STB_WEAK and STT_COMMON
abbrev pub stb_weak : ℕ
stb_weak = 2

abbrev pub stt_common : ℕ
stt_common = 5

-- ---- relocations
-- the size in bytes of an entry with an addend
abbrev pub rela_bytes : ℕ
rela_bytes = 12

-- the symbol and the type of a relocation in one word, r_info: ELF32_R_SYM and ELF32_R_TYPE
abbrev pub r_sym : ℕ → ℕ
r_sym info = info / 256

abbrev pub r_type : ℕ → ℕ
r_type info = info % 256

-- the types that change a halfword: R_PPC_ADDR16, its _LO, _HI and _HA, and R_PPC_UADDR16
abbrev pub half_types : List ℕ
half_types = 3 ∷ 4 ∷ 5 ∷ 6 ∷ 25 ∷ []

-- the types that change a word: R_PPC_ADDR32, R_PPC_ADDR24, R_PPC_ADDR14 and its two with a branch hint, R_PPC_REL24,
-- R_PPC_REL14 and its two with a branch hint, R_PPC_UADDR32 and R_PPC_REL32
abbrev pub word_types : List ℕ
word_types = 1 ∷ 2 ∷ 7 ∷ 8 ∷ 9 ∷ 10 ∷ 11 ∷ 12 ∷ 13 ∷ 24 ∷ 26 ∷ []
