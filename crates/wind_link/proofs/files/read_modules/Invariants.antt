use Rattle.std.proofs.Common.{◌≡◌, ◌≤◌, length, map, take}
use Rattle.std.specs.List.{All}
use Rattle.module_image.specs.Linkable.{IsLinkable}
use Rattle.module_image.specs.Opening.{opening_blocks}
use Rattle.wind_link.specs.declared.linking.Placed.{Placed}
use Rattle.wind_outside.specs.Requests.{GrowsBy}
use Rattle.wind_link.specs.Command.{AreRowLoads}
use Rattle.wind_link.specs.Fetches.{found_modules}
use Rattle.wind_link.specs.Placing.{taken_by}
use Rattle.wind_link.specs.Rows.{row}
use Rattle.wind_link.specs.Steps.{loads}
use Rattle.wind_link.proofs.files.read_modules.Given as goal

-- the modules of the rows so far are read and placed
abbrev pub invariant-loop-row : goal.invariant-loop-row
invariant-loop-row g l = record {
  placed : AreRowLoads (g.F.Folder.files l.fn.folder) l.dir opening_blocks (map row (take l.row-index l.rows)) (loads l.modules.placed.items);
  taken : l.modules.taken.items ≡ taken_by opening_blocks (loads l.modules.placed.items);
  linkable : All (λ (p : Placed). IsLinkable p.module) l.modules.placed.items;
  count : length l.modules.placed.items ≡ l.row-index;
  files : g.F.Folder.files l.folder ≡ g.F.Folder.files l.fn.folder;
  found : GrowsBy (g.F.Folder.requests l.fn.folder) (g.F.Folder.requests l.folder) (found_modules l.dir (map row (take l.row-index l.rows)));
  faults : g.F.Folder.faults l.fn.folder ≤ g.F.Folder.faults l.folder;
}
