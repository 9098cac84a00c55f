use Rattle.std.proofs.Common.{refl}
use Rattle.satl_frame.specs.Reading.{Reading}
use Rattle.satl_frame.proofs.Refusals.{begin_blames, frame_blames}
use Rattle.satl_frame.proofs.reader.FrameReader.advance.Goals as goal

pub returns-in-Err-read_frame-clause-blames : goal.returns-in-Err-read_frame-clause-blames
returns-in-Err-read_frame-clause-blames g c =
    let old : Reading = record { limit = c.self.inside.limit; newest = c.self.inside.newest; place = c.self.inside.place; refused = c.self.inside.refused } in
    (rw (← c.self.view_is) (frame_blames old c.in-Ok.place _ _ _ c.in-Err-read_frame.fault c.in-Ok.ensures.began c.in-Err-read_frame.ensures.fault), c.self.view_is)

pub returns-in-Err-clause-blames : goal.returns-in-Err-clause-blames
returns-in-Err-clause-blames g c =
    let old : Reading = record { limit = c.self.inside.limit; newest = c.self.inside.newest; place = c.self.inside.place; refused = c.self.inside.refused } in
    (rw (← c.self.view_is) (begin_blames old _ _ c.in-Err.fault c.in-Err.ensures.fault), refl)
