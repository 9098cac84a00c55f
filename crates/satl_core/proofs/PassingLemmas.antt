-- ATA PASS-THROUGH: what its command does on the drive is what the device says.
use Rattle.std.proofs.Common.{◌≡◌, ◌⊎◌, ⊎_elim, inl, inr, refl, sym, ap, subst, ◌∙◌, arith, ℕ, ◌+◌, ◌*◌, ◌≤◌, Bool, true, false, List, [], ◌∷◌, length}
use Rattle.std.specs.Prelude.{MatchBool, MatchOption, Option, Some, None, if◌then◌else◌, not, ◌==◌, ◌&&◌, ◌||◌, nat_lt}
use Rattle.std.proofs.lemmas.Bool.{eqb-true, not-false, and_right}
use Rattle.std.proofs.lemmas.List.{length-take, take_all}
use Rattle.satl_base.specs.declared.block.Block.{Block}
use Rattle.satl_base.specs.declared.modes.Modes.{Modes}
use Rattle.satl_base.specs.declared.reply.Reply.{Reply}
use Rattle.satl_base.specs.Blocks.{bytes_of, first_bytes, AreWhole}
use Rattle.satl_base.specs.Cells.{Pair, first_flaw}
use Rattle.satl_base.specs.Lists.{IsIn}
use Rattle.satl_base.proofs.MovesLemmas.{lose_once}
use Rattle.satl_base.proofs.BlocksLemmas.{length-bytes_of}
use Rattle.satl_base.proofs.Booleans.{not-not}
use Rattle.satl_cdb.specs.declared.command.Command.TheVariants as cdbs
use Rattle.satl_identify.specs.declared.identity.Identity.{Identity}
use Rattle.satl_identify.specs.Data.{identity_data}
use Rattle.satl_sense.specs.declared.sense.Sense.{Sense}
use Rattle.satl_regs.specs.declared.values.AtaCommand.{AtaCommand}
use Rattle.satl_regs.specs.declared.values.AtaCommand.TheVariants as ata
use Rattle.satl_regs.specs.declared.values.Taskfile.{Taskfile}
use Rattle.satl_regs.specs.Commands.{command_in}
use Rattle.satl_regs.specs.Effects as effects
use Rattle.satl_regs.specs.declared.setting.Setting.{Setting}
use Rattle.satl_regs.specs.Effects.{Carries, HasEffect, EndsBad, Medium, Traffic, Transfer, abrt, has_setting, is_bad, own_blocks, pairs_of, reading, setting_of, settable, trimming, verifying, writing}
use Rattle.satl_regs.specs.declared.setting.Setting.TheVariants.{WriteCache, LookAhead}
use Rattle.satl_pass.specs.declared.pass.Pass.{Pass}
use Rattle.satl_pass.specs.Reading.{CanGoToDrive}
use Rattle.satl_pass.specs.Transfers.{is_other}
use Rattle.satl_frame.specs.DataPages.{page_count, pages_from, pages_of}
use Rattle.satl_frame.proofs.Paging.{length-pages_of, pages_of-bytes_of}
use Rattle.satl_line.specs.declared.entry.Entry.{Entry}
use Rattle.satl_unit.specs.declared.attention.Attention.{Attention}
use Rattle.satl_drive.specs.State as drive
use Rattle.satl_drive.specs.State.{DriveState, with_medium}
use Rattle.satl_barrier.specs.Leaving.{TellsOf}
use Rattle.satl_barrier.specs.Settings.{IsSetBy}
use Rattle.satl_direct.specs.Device.{Device}
use Rattle.satl_direct.specs.Ending.{EndsPassed, device_medium, pass_reply}
use Rattle.satl_direct.specs.Tasks.{pass_of, task_of}
use Rattle.satl_direct.proofs.Passing.{writes_none}
use Rattle.satl_direct.proofs.Quieting.{quiet_none}
use Rattle.satl_core.specs.declared.turning.Ending.{Ending}
use Rattle.satl_core.specs.Medium.{PagesOnDrive, PassesThrough, pages_on, passed}
use Rattle.satl_core.specs.Refilling.{EndsOne}
use Rattle.satl_core.specs.Turning.{ended_reply, modes_after, modes_with_setting, set_by, where_done}
use Rattle.satl_core.proofs.DeviceLemmas.{ends_around, ends_by, first_gone, seen}

-- the length of a command of the profile is its own
own_length : (pass : Pass) → is_other (command_in pass.regs) ≡ false → CanGoToDrive pass → pass.length ≡ 512 * own_blocks (command_in pass.regs)
own_length pass named can =
    eqb-true pass.length (512 * own_blocks (command_in pass.regs))
    (not-false (pass.length == 512 * own_blocks (command_in pass.regs)) (subst (λ b. (not b && not (pass.length == 512 * own_blocks (command_in pass.regs))) ≡ false) named can.own_length))

-- its data have room in its pages
pub own_room : (pass : Pass) (n : ℕ) → CanGoToDrive pass → n ≡ page_count pass.length → own_blocks (command_in pass.regs) ≤ n
own_room pass n can count = by (command_in pass.regs) refl
  where
    by : (c : AtaCommand) → command_in pass.regs ≡ c → own_blocks (command_in pass.regs) ≤ n
    by (ata.Other code) is = let none = ap own_blocks is in omega (arith, none)
    by c is = let size = own_length pass (ap is_other is) can in omega (arith, size, count)

-- ---- whole pages

first_all : (n : ℕ) (bs : List Block) → AreWhole bs → n ≡ 512 * length bs → first_bytes n bs ≡ bytes_of bs
first_all n bs whole size = take_all n (bytes_of bs) (omega (arith, size, length-bytes_of bs whole))

-- whole pages are those of their bytes
own_pages : (n : ℕ) (bs : List Block) → AreWhole bs → n ≡ 512 * length bs → pages_of (first_bytes n bs) ≡ bs
own_pages n bs whole size = ap pages_of (first_all n bs whole size) ∙ pages_of-bytes_of bs whole

own_size : (n : ℕ) (bs : List Block) → AreWhole bs → n ≡ 512 * length bs → length (first_bytes n bs) ≡ 512 * length bs
own_size n bs whole size = ap length (first_all n bs whole size) ∙ length-bytes_of bs whole

-- pages of so many bytes
size_of_pages : (n : ℕ) (bs : List Block) → AreWhole bs → length bs ≡ page_count n → length (pages_of (first_bytes n bs)) ≡ page_count n
size_of_pages n bs whole count =
    length-pages_of (first_bytes n bs) ∙ ap page_count (length-take n (bytes_of bs) ∙ omega (arith, length-bytes_of bs whole, count))

-- ---- what it sets

-- the mode values once an ATA command has ended
abbrev modes_by : AtaCommand → Bool → Modes → Modes
modes_by c bad modes = if bad then modes else set_by c modes

-- the settings of a medium are those of the mode values
pub record AreSet (modes : Modes) (m : Medium) : Type 0 where
  pub cache : m.cache ≡ modes.wce
  pub look : m.look ≡ not modes.dra

keeps : (modes : Modes) (old new : Medium) (bad : Bool) → AreSet modes old → (new.cache ≡ old.cache) × (new.look ≡ old.look) → AreSet (if bad then modes else modes) new
keeps modes old new true set same = record { cache = same.0 ∙ set.cache; look = same.1 ∙ set.look }
keeps modes old new false set same = record { cache = same.0 ∙ set.cache; look = same.1 ∙ set.look }

same_so : (old new after : Medium) → new ≡ after → after.cache ≡ old.cache → after.look ≡ old.look → (new.cache ≡ old.cache) × (new.look ≡ old.look)
same_so old new after is cache look = (ap (λ (m : Medium). m.cache) is ∙ cache, ap (λ (m : Medium). m.look) is ∙ look)

-- a command that goes over a range sets nothing
carries_keep : (t : Transfer) (x : Traffic) (old new : Medium) → Carries t x old new → (new.cache ≡ old.cache) × (new.look ≡ old.look)
carries_keep t x old new = by (nat_lt (length old.cells) (t.lba + t.sectors)) (first_flaw t.stopped_by old.cells t.lba t.sectors)
  where
    by : (outside : Bool) (flaw : Option ℕ)
        → MatchBool outside (EndsBad effects.idnf x.registers.lba x old new)
        (MatchOption flaw (effects.EndsInFull t x old new ⊎ effects.IsGarbled t x old new) (λ at. effects.IsFlawed t at x old new))
        → (new.cache ≡ old.cache) × (new.look ≡ old.look)
    by true flaw does = same_so old new _ does.medium refl refl
    by false None does = ⊎_elim (λ y. same_so old new _ y.medium refl refl) (λ y. same_so old new _ y.medium refl refl) does
    by false (Some at) does = same_so old new _ does.medium refl refl

module _ (x : Traffic) (modes : Modes) (old new : Medium) (set : AreSet modes old) where
  refused_keeps : EndsBad abrt 0 x old new → (bad_modes : Bool → Modes) → bad_modes true ≡ modes → AreSet (bad_modes (is_bad x.ended)) new
  refused_keeps does bad_modes is =
      subst (λ (e : Taskfile). AreSet (bad_modes (is_bad e)) new) (sym does.ends)
      (subst (λ (m : Modes). AreSet m new) (sym is) (keeps modes old new true set (same_so old new _ does.medium refl refl)))

  made : (s : Setting) → effects.IsSet s x old new → AreSet (modes_with_setting (Some s) modes) new
  made (WriteCache true) does = record { cache = ap (λ (m : Medium). m.cache) does.medium; look = ap (λ (m : Medium). m.look) does.medium ∙ set.look }
  made (WriteCache false) does = record { cache = ap (λ (m : Medium). m.cache) does.medium; look = ap (λ (m : Medium). m.look) does.medium ∙ set.look }
  made (LookAhead true) does = record { cache = ap (λ (m : Medium). m.cache) does.medium ∙ set.cache; look = ap (λ (m : Medium). m.look) does.medium }
  made (LookAhead false) does = record { cache = ap (λ (m : Medium). m.cache) does.medium ∙ set.cache; look = ap (λ (m : Medium). m.look) does.medium }

  -- SET FEATURES: a setting that the drive has, or it is refused
  features : (o : Option Setting) → MatchOption (settable old.identify o) (EndsBad abrt 0 x old new) (λ s. effects.IsSet s x old new)
      → AreSet (if is_bad x.ended then modes else modes_with_setting o modes) new
  features None does = refused_keeps does (λ b. if b then modes else modes) refl
  features (Some s) does = by (has_setting old.identify s) does
    where
      by : (has : Bool) → MatchOption (if has then Some s else None) (EndsBad abrt 0 x old new) (λ s. effects.IsSet s x old new) → AreSet (if is_bad x.ended then modes else modes_with_setting (Some s) modes) new
      by true does = subst (λ (e : Taskfile). AreSet (if is_bad e then modes else modes_with_setting (Some s) modes) new) (sym does.ends) (made s does)
      by false does = refused_keeps does (λ b. if b then modes else modes_with_setting (Some s) modes) refl

  -- what an ATA command leaves is set as the mode values behind it say
  pub set_after : (c : AtaCommand) → HasEffect c x old new → AreSet (modes_by c (is_bad x.ended) modes) new
  set_after (ata.Read how lba sectors) does = keeps modes old new (is_bad x.ended) set (carries_keep (reading how lba sectors old) x old new does)
  set_after (ata.Write how lba sectors) does = keeps modes old new (is_bad x.ended) set (carries_keep (writing how lba sectors x.given old) x old new does)
  set_after (ata.Verify ext lba sectors) does = keeps modes old new (is_bad x.ended) set (carries_keep (verifying ext lba sectors) x old new does)
  set_after (ata.SetFeatures what) does = features (setting_of what) does
  set_after (ata.ReadLog log page blocks) does = logged (effects.is_error_log log page blocks) does
    where
      logged : (b : Bool) → MatchBool b (effects.IsLogged effects.no_error_log x old new) (EndsBad abrt 0 x old new) → AreSet (if is_bad x.ended then modes else modes) new
      logged true does = keeps modes old new (is_bad x.ended) set (same_so old new _ does.medium refl refl)
      logged false does = keeps modes old new (is_bad x.ended) set (same_so old new _ does.medium refl refl)
  set_after (ata.Trim blocks) does = trimmed (effects.is_no_trim blocks x.given old) does
    where
      trimmed : (b : Bool) → MatchBool b (EndsBad abrt 0 x old new) (Carries (trimming blocks x.given old) x old new) → AreSet (if is_bad x.ended then modes else modes) new
      trimmed true does = keeps modes old new (is_bad x.ended) set (same_so old new _ does.medium refl refl)
      trimmed false does = keeps modes old new (is_bad x.ended) set (carries_keep (trimming blocks x.given old) x old new does)
  set_after _ does = keeps modes old new (is_bad x.ended) set (same_so old new _ does.medium refl refl)

-- the form of sense data stays
same_form : (c : AtaCommand) (bad : Bool) (modes : Modes) → (modes_by c bad modes).d_sense ≡ modes.d_sense
same_form c true modes = refl
same_form (ata.SetFeatures what) false modes = by (setting_of what)
  where
    by : (o : Option Setting) → (modes_with_setting o modes).d_sense ≡ modes.d_sense
    by None = refl
    by (Some (WriteCache on)) = refl
    by (Some (LookAhead on)) = refl
same_form c false modes = refl

-- mode values by the settings of a medium
modes_of : (modes set : Modes) (m : Medium) → AreSet set m → set.d_sense ≡ modes.d_sense → record modes { wce = m.cache; dra = not m.look } ≡ set
modes_of modes set m are form =
    ap (λ b. record modes { wce = b; dra = not m.look }) are.cache
    ∙ (ap (λ b. record modes { wce = set.wce; dra = b }) (ap not are.look ∙ not-not set.dra)
    ∙ ap (λ b. record { wce = set.wce; dra = set.dra; d_sense = b }) (sym form))

-- ---- how it ends

done_by : {A : Type 0} (pass : Pass) (ended : Taskfile) (done kept : A) → where_done (passed pass ended) done kept ≡ (if is_bad ended then kept else done)
done_by pass ended done kept = by (is_bad ended) pass.ck_cond _ _
  where
    by : (bad told : Bool) (error information : Sense) → where_done (Rattle.satl_core.specs.Medium.ending_with (if bad then Some error else if told then Some information else None) bad) done kept ≡ (if bad then kept else done)
    by true told error information = refl
    by false true error information = refl
    by false false error information = refl

-- the mode values behind it
pub modes_behind : (pass : Pass) (ended : Taskfile) (c : AtaCommand) (modes : Modes) → where_done (passed pass ended) (set_by c modes) modes ≡ modes_by c (is_bad ended) modes
modes_behind pass ended c modes = done_by pass ended (set_by c modes) modes

-- the answer of the layer is that of the device
reply_is : (s : Device) (entry : Entry) (cdb : List ℕ) (ended : Taskfile) (taken read : List Block)
    → ((is_bad ended || (pass_of cdb).out) ≡ false → (pages_of (first_bytes (pass_of cdb).length read) ≡ taken) × (length (first_bytes (pass_of cdb).length read) ≡ 512 * length taken))
    → ended_reply (record entry { command = cdbs.Pass cdb; body = taken }) (passed (pass_of cdb) ended) s.modes.d_sense ≡ pass_reply s (task_of (record entry { command = cdbs.Pass cdb })) (pass_of cdb) ended read
unfolding pages_of pages_from
reply_is s entry cdb ended taken read same = by (is_bad ended) refl (pass_of cdb).ck_cond refl (pass_of cdb).out refl
  where
    by : (bad : Bool) → is_bad ended ≡ bad → (told : Bool) → (pass_of cdb).ck_cond ≡ told → (out : Bool) → (pass_of cdb).out ≡ out
        → ended_reply (record entry { command = cdbs.Pass cdb; body = taken }) (passed (pass_of cdb) ended) s.modes.d_sense ≡ pass_reply s (task_of (record entry { command = cdbs.Pass cdb })) (pass_of cdb) ended read
    by true bad told ck out o = rw bad refl
    by false good true ck true o = rw (good, ck, o) refl
    by false good false ck true o = rw (good, ck, o) refl
    by false good true ck false o = let both = same (rw (good, o) refl) in rw (good, ck, o, both.0, both.1) refl
    by false good false ck false o = let both = same (rw (good, o) refl) in rw (good, ck, o, both.0, both.1) refl

-- the drive is set as the mode values behind it say
pub pass_sets : (cdb : List ℕ) (modes wanted : Modes) (old new : PagesOnDrive) (ending : Ending) → PassesThrough (pass_of cdb) old ending new → IsSetBy modes old.drive
    → (new.drive.cache ≡ (modes_after (cdbs.Pass cdb) ending modes wanted).wce) × (new.drive.look ≡ not (modes_after (cdbs.Pass cdb) ending modes wanted).dra)
pass_sets cdb modes wanted old new ending through set =
    let c = command_in (pass_of cdb).regs in
    let x : Traffic = record { registers = (pass_of cdb).regs; given = old.pages; ended = through.ended; taken = new.pages } in
    let are = set_after x modes (drive.medium_of old.drive) through.is.after (record { cache = set.cache; look = set.look }) c through.is.does in
    let same = sym (ap (λ e. where_done e (set_by c modes) modes) through.told ∙ modes_behind (pass_of cdb) through.ended c modes) in
    (ap (λ (y : DriveState). y.cache) through.is.stays ∙ (are.cache ∙ ap (λ (m : Modes). m.wce) same), ap (λ (y : DriveState). y.look) through.is.stays ∙ (are.look ∙ ap (λ (m : Modes). not m.dra) same))

-- ---- the data that the device sees

-- a command that the profile does not have is refused whatever is handed in
refused_all : (c : AtaCommand) (x : Traffic) (m new : Medium) → HasEffect c x m new
    → (is_other c ≡ false) ⊎ ((other : List Block) → HasEffect c (record x { given = other; taken = other }) m new × (is_bad x.ended ≡ true))
refused_all (ata.Other code) x m new does = inr (λ other. (record { ends = does.ends; data_in = refl; medium = does.medium }, ap is_bad does.ends))
refused_all c x m new does = inl refl

-- the pages that the device is given: those of the data-out, and else any
abbrev seen_pages : Pass → List Block → List Block
seen_pages pass body = if pass.out then pages_of (first_bytes pass.length body) else body

seen_size : (pass : Pass) (body : List Block) → AreWhole body → length body ≡ page_count pass.length → length (seen_pages pass body) ≡ page_count pass.length
seen_size pass body whole count = elim pass.out as (λ b. length (if b then pages_of (first_bytes pass.length body) else body) ≡ page_count pass.length) [ true ↦ size_of_pages pass.length body whole count | false ↦ count ]

module _ (identity : Identity) (modes : Modes) (started : Bool) (attentions : List (List Attention)) (entry : Entry) (others : List Entry) (d : DriveState) (cdb : List ℕ) where
  abbrev pass : Pass
  pass = pass_of cdb

  abbrev command : AtaCommand
  command = command_in pass.regs

  abbrev task : Entry
  task = record entry { command = cdbs.Pass cdb }

  abbrev before : Device
  before = seen identity modes started attentions (task_of task ∷ others) d

  same_medium : IsSetBy modes d → TellsOf identity.bytes d → drive.medium_of d ≡ device_medium before
  same_medium set told =
      ap (λ i. record (drive.medium_of d) { identify = i }) told
      ∙ (ap (λ b. record { cells = d.cells; cache = b; look = d.look; active = d.active; glitches = d.glitches; identify = identity_data identity.bytes b d.look }) set.cache
      ∙ ap (λ b. record { cells = d.cells; cache = modes.wce; look = b; active = d.active; glitches = d.glitches; identify = identity_data identity.bytes modes.wce b }) set.look)

  -- the data-out of a command of the profile are its pages
  out_is : CanGoToDrive pass → is_other command ≡ false → length entry.body ≡ page_count pass.length → AreWhole entry.body → pass.out ≡ true → (task_of task).body ≡ entry.body
  out_is can named count whole out =
      let size = own_length pass named can in
      ap (λ b. if b then pages_of (first_bytes pass.length entry.body) else []) out ∙ own_pages pass.length entry.body whole (omega (arith, size, count))

  -- what it writes is what the device says that it writes
  pub pass_pairs : (pair : Pair) → IsSetBy modes d → TellsOf identity.bytes d → CanGoToDrive pass → length entry.body ≡ page_count pass.length → AreWhole entry.body → IsIn pair (pairs_of command (drive.medium_of d) entry.body)
      → IsIn pair (pairs_of command (device_medium before) (task_of task).body)
  pass_pairs pair set told can count whole among = ⊎_elim (λ named. by named pass.out refl) (λ none. absurd (subst (IsIn pair) (none (drive.medium_of d) entry.body) among)) (named_or_none command)
    where
      named_or_none : (c : AtaCommand) → (is_other c ≡ false) ⊎ ((m : Medium) (given : List Block) → pairs_of c m given ≡ [])
      named_or_none (ata.Other code) = inr (λ m given. refl)
      named_or_none c = inl refl

      by : is_other command ≡ false → (b : Bool) → pass.out ≡ b → IsIn pair (pairs_of command (device_medium before) (task_of task).body)
      by named true out = subst (λ g. IsIn pair (pairs_of command (device_medium before) g)) (sym (out_is can named count whole out)) (subst (λ m. IsIn pair (pairs_of command m entry.body)) (same_medium set told) among)
      by named false out = absurd (subst (IsIn pair) (writes_none command pass can.own_length can.own_direction out (drive.medium_of d) entry.body) among)

  module _ (d' : DriveState) (ending : Ending) (taken : List Block) (set : IsSetBy modes d) (told : TellsOf identity.bytes d) (can : CanGoToDrive pass) (count : length entry.body ≡ page_count pass.length) (through : PassesThrough pass (pages_on entry.body d) ending (pages_on taken d')) where
    abbrev x : Traffic
    x = record { registers = pass.regs; given = entry.body; ended = through.ended; taken = taken }

    abbrev left : Modes
    left = record modes { wce = through.is.after.cache; dra = not through.is.after.look }

    abbrev mid : Device
    mid = seen identity left started attentions others (with_medium d through.is.after)

    abbrev reply : Reply
    reply = ended_reply (record task { body = taken }) (passed pass through.ended) modes.d_sense

    does : HasEffect command x (device_medium before) through.is.after
    does = subst (λ m. HasEffect command x m through.is.after) (same_medium set told) through.is.does

    left_is : left ≡ where_done (passed pass through.ended) (set_by command modes) modes
    left_is =
        modes_of modes (modes_by command (is_bad through.ended) modes) through.is.after (set_after x modes (device_medium before) through.is.after (record { cache = refl; look = refl }) command does) (same_form command (is_bad through.ended) modes)
        ∙ sym (modes_behind pass through.ended command modes)

    goes : mid ≡ record before { cells = through.is.after.cells; tasks = Rattle.satl_direct.specs.Device.without (task_of task) before.tasks; modes = left; active = through.is.after.active; glitches = through.is.after.glitches }
    goes = first_gone identity left started attentions (task_of task) others (with_medium d through.is.after)

    passes : (is_other command ≡ false) ⊎ ((other : List Block) → HasEffect command (record x { given = other; taken = other }) (device_medium before) through.is.after × (is_bad through.ended ≡ true)) → EndsPassed pass before (task_of task) reply mid
    passes (inl named) =
        let size = own_length pass named can in
        record {
          given = entry.body;
          data_out = λ out. sym (out_is can named count through.whole out);
          size = count;
          ended = through.ended;
          taken = taken;
          after = through.is.after;
          does = does;
          answer = reply_is before entry cdb through.ended taken taken (λ good. (own_pages pass.length taken through.left_whole (omega (arith, size, count, through.size)), own_size pass.length taken through.left_whole (omega (arith, size, count, through.size))));
          stays = goes;
        }
    passes (inr any) = record {
      given = seen_pages pass entry.body;
      data_out = λ out. ap (λ b. if b then pages_of (first_bytes pass.length entry.body) else entry.body) out ∙ sym (ap (λ b. if b then pages_of (first_bytes pass.length entry.body) else []) out);
      size = seen_size pass entry.body through.whole count;
      ended = through.ended;
      taken = seen_pages pass entry.body;
      after = through.is.after;
      does = (any (seen_pages pass entry.body)).0;
      answer = reply_is before entry cdb through.ended taken (seen_pages pass entry.body) (λ good. absurd (no (is_bad through.ended) (any []).1 good));
      stays = goes;
    }
      where
        no : (b : Bool) → b ≡ true → (b || pass.out) ≡ false → ⊥
        no true is good = absurd cc
        no false is good = absurd cc

    -- it ends as the device says
    pub pass_turn : EndsOne before (ended_reply (record task { body = taken }) ending modes.d_sense) (seen identity (where_done ending (set_by command modes) modes) started attentions others d')
    pass_turn =
        subst (λ e. EndsOne before (ended_reply (record task { body = taken }) e modes.d_sense) (seen identity (where_done e (set_by command modes) modes) started attentions others d')) (sym through.told)
        (subst (λ m. EndsOne before reply (seen identity m started attentions others d')) left_is
        (ends_around before before mid (seen identity left started attentions others d') (task_of task) others reply (quiet_none before) refl
        (ends_by before (task_of task) reply mid set.up (and_right (not started) false refl) (passes (refused_all command x (device_medium before) through.is.after does)))
        (record {
          cells = lose_once through.is.lost;
          active = inl (ap (λ (y : DriveState). y.active) through.is.stays);
          stays = ap (λ (y : DriveState). record mid { cells = d'.cells; active = d'.active; down = y.down; glitches = y.glitches }) through.is.stays;
        })))
