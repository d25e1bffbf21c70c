-- The test for a buildable module is exact.
use Rattle.std.proofs.Common.{◌-◌, ◌<◌, ◌^◌, length, get_or, arith}
use Rattle.elf_read.specs.declared.module.Module.{Module}
use Rattle.elf_build.specs.Buildable.{Buildable}
use Rattle.elf_build.specs.File.{file_of}
use Rattle.elf_build.specs.Judging.{IsSmall, HasBuildableParts}

pub judged : (m : Module) → IsSmall m → HasBuildableParts m → length (file_of m) < 2 ^ 32 → Buildable m
judged m s p short =
    let headers = s.headers in
    record {
      sound = record {
        few_sections = omega arith;
        few_symbols = s.symbols;
        few_relocs = s.relocs;
        sections = λ k d l. (p.sections k d l).0;
        symbols = λ k d l. (p.symbols k d l).0;
        relocs = λ k d l.
            let r = p.relocs k d l in
            let within = r.symbol in
            record {
              section = r.section;
              inside = r.inside;
              symbol = r.symbol;
              here = λ e pos. (p.symbols ((get_or m.relocs k d).symbol - 1) e (omega arith)).1.0;
            };
      };
      here = λ k d l. (p.symbols k d l).1.0;
      rising = p.rising;
      few_headers = s.headers;
      short = short;
      sections_fit = λ k d l. (p.sections k d l).1;
      symbols_fit = λ k d l. (p.symbols k d l).1.1;
      relocs_fit = λ k d l. (p.relocs k d l).fits;
    }

-- everything that is tested
pub record Tested (m : Module) : Type 0 where
  pub small : IsSmall m
  pub parts : HasBuildableParts m
  pub short : length (file_of m) < 2 ^ 32

pub unjudged : (m : Module) → Buildable m → Tested m
unjudged m b = record {
  small = record { headers = b.few_headers; symbols = b.sound.few_symbols; relocs = b.sound.few_relocs };
  parts = record {
    sections = λ k d l. (b.sound.sections k d l, b.sections_fit k d l);
    symbols = λ k d l. (b.sound.symbols k d l, (b.here k d l, b.symbols_fit k d l));
    relocs = λ k d l.
        let r = b.sound.relocs k d l in
        record { section = r.section; inside = r.inside; symbol = r.symbol; fits = b.relocs_fit k d l };
    rising = b.rising;
  };
  short = b.short;
}
