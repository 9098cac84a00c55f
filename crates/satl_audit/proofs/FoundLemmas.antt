-- The answer that comes next names the task that ends.
use Rattle.std.proofs.Common.{arith, ◌≡◌, sym, ap, ◌∙◌, subst, ℕ, ◌+◌, ◌*◌, true, List, ◌++◌, length}
use Rattle.std.specs.Prelude.{◌<◌, ◌≤◌, ◌^◌, Option, Some, None, slice_get}
use Rattle.std.specs.List.{position_from}
use Rattle.satl_base.specs.declared.request.Tag.{Tag}
use Rattle.satl_base.specs.declared.reply.Reply.{Reply}
use Rattle.satl_base.specs.Blocks.{first_bytes}
use Rattle.satl_identify.specs.declared.identity.Identity.{Identity}
use Rattle.satl_frame.specs.Output.{reply_bytes}
use Rattle.satl_line.specs.Conflict.{conflicts}
use Rattle.satl_line.specs.Eligible.{eligible_at}
use Rattle.satl_line.proofs.EligibleLemmas.{eligible_stands}
use Rattle.satl_direct.specs.Device.{Device}
use Rattle.satl_audit.specs.Arriving.{device_at}
use Rattle.satl_audit.specs.Deeds.{Deed}
use Rattle.satl_audit.specs.Finishing.{AreTasks, NamesNext}
use Rattle.satl_audit.specs.Skeleton.{TaskDone}
use Rattle.satl_audit.specs.Waiting.{Fits, device_tasks, entries_in, has_name}
use Rattle.satl_audit.specs.declared.arriving.Followed.{Followed}
use Rattle.satl_audit.proofs.NextLemmas.{all_at, at_device, eligible_same, named_at}
use Rattle.satl_audit.proofs.ReplyLemmas.{good_is}
use Rattle.satl_laws.proofs.Ends.{eligible_in as eligible_there}
use Rattle.satl_laws.proofs.Rows.{in_all as all_of}

module _ (identity : Identity) (input : List ℕ) (followed : Followed) (reply : Reply) (deed : Deed) (new : Device) (left : List ℕ) (tasks : AreTasks identity input followed.waiting) (done : TaskDone (device_at identity input followed) reply deed new) (said : followed.output ≡ reply_bytes reply ++ left) where
  -- the search for it
  pub record Search (name : Option (ℕ × Tag)) : Type 0 where
    pub nexus : ℕ
    pub tag : ℕ
    pub place : ℕ
    pub named : name ≡ Some (record { 0 = nexus; 1 = record { 0 = tag } })
    pub found : position_from (has_name nexus tag) 0 followed.waiting ≡ Some place
    pub eligible : eligible_at (entries_in followed.waiting) place ≡ true
    pub at : slice_get (device_tasks input followed.waiting) place ≡ Some done.task

  pub search_ends : (name : Option (ℕ × Tag)) → NamesNext followed.output name → Search name
  search_ends name names =
      let t = done.task in
      let there = eligible_there (device_tasks input followed.waiting) t done.eligible in
      let e = eligible_stands conflicts (device_tasks input followed.waiting) t done.eligible in
      let place = e.0 in
      let a = at_device input followed.waiting place t e.1 in
      let expected : t.expected ≡ None = all_of (λ u. u.expected ≡ None) (device_tasks input followed.waiting) t tasks.expected there in
      let tag : (t.tag).0 < 2 ^ 32 = all_of (λ u. (u.tag).0 < 2 ^ 32) (device_tasks input followed.waiting) t tasks.tags there in
      let f = all_at (Fits identity.capacity (length input)) followed.waiting place a.placed tasks.fit a.at in
      let none : 0 + place ≡ place = omega arith in
      record {
        nexus = t.nexus;
        tag = (t.tag).0;
        place = place;
        named = names t.nexus (t.tag).0 (512 * length done.blocks) (first_bytes (512 * length done.blocks) done.blocks ++ left) (subst (λ u. u.nexus ≤ 3) a.is f.nexus) tag
            (said ∙ ap (λ (x : Reply). reply_bytes x ++ left) done.answer ∙ good_is t done.blocks left expected);
        found = subst (λ u. position_from (has_name u.nexus (u.tag).0) 0 followed.waiting ≡ Some place) a.is (named_at input followed.waiting place 0 a.placed tasks.own a.at ∙ ap (λ n. Some n) none);
        eligible = sym (eligible_same input followed.waiting place) ∙ e.2;
        at = e.1;
      }

  abbrev nexus_of : Option (ℕ × Tag) → ℕ
  nexus_of None = 0
  nexus_of (Some name) = name.0

  abbrev tag_of : Option (ℕ × Tag) → ℕ
  tag_of None = 0
  tag_of (Some name) = name.1.0

  -- the search by this name
  pub found_by : (nexus : ℕ) (tag : Tag) (s : Search (Some (record { 0 = nexus; 1 = tag }))) → position_from (has_name nexus tag.0) 0 followed.waiting ≡ Some s.place
  found_by nexus tag s =
      ap (λ n. position_from (has_name n tag.0) 0 followed.waiting) (ap nexus_of s.named)
      ∙ ap (λ n. position_from (has_name s.nexus n) 0 followed.waiting) (ap tag_of s.named)
      ∙ s.found
