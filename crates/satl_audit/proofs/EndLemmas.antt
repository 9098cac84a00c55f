-- A task that the next answer names ends.
use Rattle.std.proofs.Common.{arith, ◌≡◌, refl, sym, ap, ◌∙◌, subst, ℕ, ◌*◌, Bool, true, false, List, [], ◌++◌, length}
use Rattle.std.specs.Prelude.{◌&&◌, not, Option, Some, None, remove, slice_get}
use Rattle.satl_base.specs.declared.block.Block.{Block}
use Rattle.satl_base.specs.declared.reply.Reply.{Reply}
use Rattle.satl_base.specs.declared.reply.Scsi.TheVariants.{Good}
use Rattle.satl_base.specs.Blocks.{bytes_of, AreWhole, over}
use Rattle.satl_base.specs.Cells.{pairs_from}
use Rattle.satl_base.proofs.BlocksLemmas.{length-bytes_of}
use Rattle.satl_cdb.specs.declared.command.Command.TheVariants as commands
use Rattle.satl_cdb.specs.declared.command.Form.{Form}
use Rattle.satl_identify.specs.declared.identity.Identity.{Identity}
use Rattle.satl_frame.specs.DataPages.{page_count, pages_of}
use Rattle.satl_frame.specs.Output.{reply_bytes}
use Rattle.satl_frame.proofs.Paging.{first_bytes-pages_of, length-pages_of, pages_of-bytes_of}
use Rattle.std.proofs.lemmas.Option.{same_Some}
use Rattle.satl_line.specs.declared.entry.Entry.{Entry}
use Rattle.satl_line.specs.Conflict.{conflicts}
use Rattle.satl_line.specs.Eligible.{IsEligible, eligible_at}
use Rattle.satl_line.proofs.EligibleLemmas.{eligible_passes}
use Rattle.satl_direct.specs.Device.{Device, without}
use Rattle.satl_direct.specs.Ending.{task_reply}
use Rattle.satl_direct.specs.Quiet.{written_by}
use Rattle.satl_audit.specs.Arriving.{device_at, device_without_sectors}
use Rattle.satl_audit.specs.Deciding.{GivesWhole}
use Rattle.satl_audit.specs.Deeds.{Deed}
use Rattle.satl_audit.specs.Deeds.Deed.{gives, puts, settles}
use Rattle.satl_audit.specs.Following.{along, pairs_in}
use Rattle.satl_audit.specs.Finishing.{AreTasks, CannotEnd, EndsOrCannot, Flushes, GoodComesFirst, OnlyEnds, ReadAnswered, WriteAnswered, head_bytes}
use Rattle.satl_audit.specs.Kept.{Keeping, known_sector_at}
use Rattle.satl_audit.specs.Sectors.{sector_gives, sector_puts}
use Rattle.satl_audit.specs.Skeleton.{DoneAs, TaskDone}
use Rattle.satl_audit.specs.Waiting.{Placed, device_tasks, entries_in, task_in}
use Rattle.satl_audit.specs.declared.arriving.Followed.{Followed}
use Rattle.satl_audit.specs.declared.reply.Name.{Name}
use Rattle.satl_audit.specs.Progress.{compared, progress, recorded}
use Rattle.satl_audit.proofs.Frames.{pages_whole}
use Rattle.satl_audit.proofs.NextLemmas.{device_at_place, eligible_same, removed_at}
use Rattle.satl_audit.proofs.ReplyLemmas.{good_is}
use Rattle.satl_audit.proofs.FinishingLemmas.{all_bytes, refusing, settle_sector}
use Rattle.satl_audit.proofs.EndWithin.{fits_at, no_other, write_body}
use Rattle.satl_laws.proofs.Ends.{eligible_in as eligible_there}
use Rattle.satl_laws.proofs.Rows.{in_all as all_of}

module _ (identity : Identity) (input : List ℕ) (old : Followed) (place : ℕ) (p : Placed) (tasks : AreTasks identity input old.waiting) (at : slice_get old.waiting place ≡ Some p)
    (eligible : eligible_at (entries_in old.waiting) place ≡ true) (only : OnlyEnds old (Some place)) (waiting : List Placed) (left : List ℕ) (is : waiting ≡ remove old.waiting place) (sectors after : List Keeping) (same : length after ≡ length sectors) where
  abbrev s : Device
  s = device_at identity input old

  abbrev t : Entry
  t = task_in input p

  abbrev name : Name
  name = record { nexus = p.entry.nexus; tag = p.entry.tag }

  abbrev new : Followed
  new = record { waiting = waiting; attentions = old.attentions; output = left }

  there : slice_get (device_tasks input old.waiting) place ≡ Some t
  there = device_at_place input old.waiting place p at

  is_eligible : IsEligible (device_tasks input old.waiting) t
  is_eligible = eligible_passes conflicts (device_tasks input old.waiting) place t there (eligible_same input old.waiting place ∙ eligible)

  expected : t.expected ≡ None
  expected = all_of (λ u. u.expected ≡ None) (device_tasks input old.waiting) t tasks.expected (eligible_there (device_tasks input old.waiting) t is_eligible)

  stays : device_at identity input new ≡ record s { tasks = without t s.tasks }
  stays = ap (λ (l : List Placed). device_without_sectors identity input l old.attentions) is ∙ ap (λ (l : List Entry). record s { tasks = l }) (removed_at input old.waiting place p tasks.own at)

  ends_by : (blocks : List Block) (deed : Deed) → DoneAs t.command s t blocks deed → TaskDone s (task_reply t Good [] blocks) deed (device_at identity input new)
  ends_by blocks deed d = record { task = t; eligible = is_eligible; blocks = blocks; done = d; answer = refl; stays = stays }

  -- any that ends is this one
  is_it : (reply : Reply) (deed : Deed) (other : Device) (rest : List ℕ) (d : TaskDone s reply deed other) → old.output ≡ reply_bytes reply ++ rest → d.task ≡ t
  is_it reply deed other rest d e =
      let o = only identity input reply deed other rest tasks d e in
      same_Some _ _ (sym o.2 ∙ ap (λ (q : Option ℕ). at_place q) (sym o.1) ∙ there)
    where
      at_place : Option ℕ → Option Entry
      at_place None = None
      at_place (Some n) = slice_get (device_tasks input old.waiting) n

  -- ---- a READ

  pub read_arm : (form : Form) (lba count : ℕ) (fua : Bool) → p.entry.command ≡ commands.Read form lba count fua → (b : Bool) → ReadAnswered input name (over lba count) (compared old.output sectors) (compared left after) b → EndsOrCannot (recorded identity input) (progress old sectors) (progress new after) b
  read_arm form lba count fua c true r =
      let given = r.0 in
      let blocks = pages_of given in
      let pages : page_count (length given) ≡ count = omega (arith, r.1.0) in
      let size : length blocks ≡ count = length-pages_of given ∙ pages in
      record {
        reply = task_reply t Good [] blocks;
        deed = gives lba blocks;
        done = ends_by blocks (gives lba blocks) (subst (λ k. DoneAs k s t blocks (gives lba blocks)) (sym c) (size, refl));
        whole = pages_whole given;
        said = r.1.1
            ∙ ap (λ n. head_bytes t.nexus (t.tag).0 Good 0 (512 * n) ++ (given ++ left)) (sym size)
            ∙ ap (λ (l : List ℕ). head_bytes t.nexus (t.tag).0 Good 0 (512 * length blocks) ++ (l ++ left)) (sym (first_bytes-pages_of (512 * length blocks) given (r.1.0 ∙ ap (λ n. 512 * n) (sym size))))
            ∙ sym (good_is t blocks left expected);
        follows = (same, λ x less. ap (along x None []) (r.2 x less));
      }
  read_arm form lba count fua c false r =
      λ reply deed other rest d whole said.
      let it = is_it reply deed other rest d said in
      let blocks = d.blocks in
      let k : (length blocks ≡ count) × (deed ≡ gives lba blocks) = subst (λ x. DoneAs x s t blocks deed) c (subst (λ u. DoneAs u.command s u blocks deed) it d.done) in
      let w : AreWhole blocks = subst GivesWhole k.1 whole in
      let answer : reply ≡ task_reply t Good [] blocks = d.answer ∙ ap (λ u. task_reply u Good [] blocks) it in
      let f = r (bytes_of blocks) rest (
        length-bytes_of blocks w ∙ ap (λ n. 512 * n) k.0,
        said
            ∙ ap (λ (q : Reply). reply_bytes q ++ rest) answer
            ∙ good_is t blocks rest expected
            ∙ ap (λ (l : List ℕ). head_bytes t.nexus (t.tag).0 Good 0 (512 * length blocks) ++ (l ++ rest)) (all_bytes blocks w)
            ∙ ap (λ n. head_bytes t.nexus (t.tag).0 Good 0 (512 * n) ++ (bytes_of blocks ++ rest)) k.0,
      ) in
      (f.0, f.1, refusing f.0 s (known_sector_at input sectors f.0) deed lba blocks k.1 (ap (λ l. sector_gives f.0 lba l (Some (known_sector_at input sectors f.0))) (sym (pages_of-bytes_of blocks w)) ∙ f.2))

  -- ---- GOOD without data

  cannot : ((reply : Reply) (deed : Deed) (other : Device) → (d : TaskDone s reply deed other) → d.task ≡ t → d.blocks ≡ []) → GoodComesFirst name old.output left false → CannotEnd (recorded identity input) (progress old sectors)
  cannot none refuses = λ reply deed other rest d whole said.
      let it = is_it reply deed other rest d said in
      let answer : reply ≡ task_reply t Good [] [] = d.answer ∙ ap (λ u. task_reply u Good [] d.blocks) it ∙ ap (task_reply t Good []) (none reply deed other d it) in
      absurd (refuses rest (said ∙ ap (λ (q : Reply). reply_bytes q ++ rest) answer ∙ good_is t [] rest expected))

  pub write_arm : (form : Form) (lba count : ℕ) (fua : Bool) → p.entry.command ≡ commands.Write form lba count fua → (cached : Bool) → cached ≡ (identity.cache && not fua) → (b : Bool) → WriteAnswered input name (record { range = over lba count; at = p.at; cached = cached }) (compared old.output sectors) (compared left after) b →
      EndsOrCannot (recorded identity input) (progress old sectors) (progress new after) b
  write_arm form lba count fua c cached through true r =
      let deed = puts (pairs_in input (over lba count) p.at (identity.cache && not fua)) in
      record {
        reply = task_reply t Good [] [];
        deed = deed;
        done = ends_by [] deed (subst (λ k. DoneAs k s t [] deed) (sym c) (refl, ap puts pairs));
        whole = tt;
        said = r.0 ∙ sym (good_is t [] left expected);
        follows = (same, λ x less. ap Some (ap (λ q. sector_puts x (pairs_in input (over lba count) p.at q) (known_sector_at input sectors x)) (sym through) ∙ sym (r.1 refl x less)));
      }
    where
      pairs : pairs_in input (over lba count) p.at (identity.cache && not fua) ≡ written_by (commands.Write form lba count fua) s t
      pairs = ap (λ (l : List Block). pairs_from lba l (identity.cache && not fua)) (sym (write_body input p form lba count fua c (fits_at identity input old.waiting place p tasks at).held))
  write_arm form lba count fua c cached through false r = cannot (λ reply deed other d it. (subst (λ x. DoneAs x s t d.blocks deed) c (subst (λ u. DoneAs u.command s u d.blocks deed) it d.done)).0) r.0

  pub flush_arm : (form : Form) (lba count : ℕ) → p.entry.command ≡ commands.Flush form lba count → (b : Bool) → Flushes name (compared old.output sectors) (compared left after) b → EndsOrCannot (recorded identity input) (progress old sectors) (progress new after) b
  flush_arm form lba count c true r = record {
    reply = task_reply t Good [] [];
    deed = settles;
    done = ends_by [] settles (subst (λ k. DoneAs k s t [] settles) (sym c) (refl, refl));
    whole = tt;
    said = r.0 ∙ sym (good_is t [] left expected);
    follows = (same, λ x less. ap Some (settle_sector input sectors x less ∙ ap (λ (l : List Keeping). known_sector_at input l x) (sym (r.1 refl))));
  }
  flush_arm form lba count c false r = cannot (λ reply deed other d it. (subst (λ x. DoneAs x s t d.blocks deed) c (subst (λ u. DoneAs u.command s u d.blocks deed) it d.done)).0) r.0

  -- ---- any other command

  pub other_arm : ((form : Form) (lba count : ℕ) (fua : Bool) → p.entry.command ≡ commands.Read form lba count fua → ⊥) → ((form : Form) (lba count : ℕ) (fua : Bool) → p.entry.command ≡ commands.Write form lba count fua → ⊥) →
      ((form : Form) (lba count : ℕ) → p.entry.command ≡ commands.Flush form lba count → ⊥) → CannotEnd (recorded identity input) (progress old sectors)
  other_arm read write flush = λ reply deed other rest d whole said.
      absurd (no_other p.entry.command s t d.blocks deed (subst (λ u. DoneAs u.command s u d.blocks deed) (is_it reply deed other rest d said) d.done) read write flush)
