-- A device with other unit attention conditions.
use Rattle.std.proofs.Common.{◌≡◌, List, length}
use Rattle.std.specs.List.{AllByRecursion}
use Rattle.satl_unit.specs.declared.attention.Attention.{Attention}
use Rattle.satl_unit.specs.Conditions.{IsInReportOrder}
use Rattle.satl_direct.specs.Device.{Device}
use Rattle.satl_direct.specs.Valid.{IsValid}

-- a valid device is so too with others for its four nexuses, each in order of report
pub valid_attended : (s : Device) (lists : List (List Attention)) → length lists ≡ 4 → AllByRecursion IsInReportOrder lists → IsValid s → IsValid (record s { attentions = lists })
valid_attended s lists four ordered v = record {
  identity = v.identity;
  cells = v.cells;
  sound = v.sound;
  few = v.few;
  blocks = v.blocks;
  own = v.own;
  come = v.come;
  modes = v.modes;
  nexuses = four;
  attentions = ordered;
}
