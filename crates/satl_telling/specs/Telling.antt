-- What the device says of itself in data-in.
use Rattle.std.specs.Prelude.{ℕ, true, false, List, [], Some, None, unwrap_or}
use Rattle.satl_base.specs.declared.modes.Modes.{Modes}
use Rattle.satl_identify.specs.declared.identity.Identity.{Identity}
use Rattle.satl_vpd.specs.Capacity.{capacity_10, capacity_16}
use Rattle.satl_vpd.specs.Luns.{lun_list}
use Rattle.satl_vpd.specs.Standard.{standard_data}
use Rattle.satl_vpd.specs.Vital.{vpd_page}
use Rattle.satl_mode.specs.ModeData.{mode_data}
use Rattle.satl_direct.specs.Senses.{sense_spelled}
use Rattle.satl_telling.specs.declared.telling.Data.{Data}
use Rattle.satl_telling.specs.declared.telling.Data.TheVariants as datas

-- the data before they are cut to an allocation length (SPC-4 6, SBC-3 5)
abbrev pub data_text : Identity → Modes → Data → List ℕ
data_text i m (datas.Inquiry None) = standard_data i true
data_text i m (datas.Inquiry (Some page)) = unwrap_or (vpd_page page i) []
data_text i m datas.NoUnit = standard_data i false
data_text i m (datas.Modes asked) = mode_data i m asked
data_text i m datas.Capacity10 = capacity_10 i
data_text i m datas.Capacity16 = capacity_16 i
data_text i m (datas.Luns select) = lun_list select
data_text i m (datas.Sense descriptor sense) = sense_spelled descriptor sense
