-- Which logical unit a request is for.
use Rattle.std.specs.Prelude.{◌||◌, Bool}
use Rattle.satl_base.specs.declared.request.Request.{Request}
use Rattle.satl_cdb.specs.PrimaryCommands.{report_luns_code}
use Rattle.satl_direct.specs.Arrival.{asks_for, is_unit_0}

-- to logical unit 0, or REPORT LUNS to any (SPC-4 6.33)
abbrev pub is_for_unit : Request → Bool
is_for_unit r = is_unit_0 r.lun || asks_for report_luns_code r
