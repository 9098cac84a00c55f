-- Events with tags in place of others.
use Rattle.std.proofs.Common.{◌≡◌, refl, sym, ap, ◌∙◌, ℕ, max, Bool, true, false, List, [], ◌∷◌, ◌++◌, map}
use Rattle.std.specs.Prelude.{not, filter, if◌then◌else◌, Option, Some, None, ◌&&◌, ◌==◌}
use Rattle.std.specs.List.{list_any}
use Rattle.std.proofs.Math.Path.{fun_ext}
use Rattle.std.proofs.lemmas.List.{map-append}
use Rattle.satl_base.specs.declared.bench.BenchEvent.{BenchEvent}
use Rattle.satl_base.specs.declared.bench.BenchEvent.TheVariants as bench
use Rattle.satl_base.specs.declared.reply.Reply.{Reply}
use Rattle.satl_base.specs.declared.reply.Response.{Response}
use Rattle.satl_base.specs.declared.request.Manage.{Manage}
use Rattle.satl_unit.specs.declared.attention.Attention.TheVariants as conditions
use Rattle.satl_unit.specs.declared.function.Function.{Function}
use Rattle.satl_unit.specs.declared.function.Function.TheVariants as functions
use Rattle.satl_unit.specs.Functions.{function_of}
use Rattle.satl_frame.specs.declared.frames.Frame.{Frame}
use Rattle.satl_frame.specs.declared.frames.Frame.TheVariants as frames
use Rattle.satl_frame.specs.Output.{Answer}
use Rattle.satl_frame.specs.Output.Answer.{replied, managed, closed}
use Rattle.satl_line.specs.declared.entry.Entry.{Entry}
use Rattle.satl_direct.specs.Device.{Device, is_of}
use Rattle.satl_direct.specs.Arrival.{Arrives, is_unit_0}
use Rattle.satl_direct.specs.Attentions.{post}
use Rattle.satl_direct.specs.Bench.{Happens}
use Rattle.satl_direct.specs.Management.{Effect, IsManaged, effect, effect_of, effect_or_none, found, has_unit}
use Rattle.satl_direct.specs.Run.{Does, Manages, MayLose, losses_in}
use Rattle.satl_renaming.proofs.Names.{AreApart, Names}
use Rattle.satl_renaming.proofs.Renaming.{answer_by, answers_by, any_alike, any_called, called_alike, device_by, entries_by, entry_by, filter_alike, frame_by, manage_by, replies_by, reply_by, request_by}
use Rattle.satl_renaming.proofs.RenamedArrivals.{arrives_alike}
use Rattle.satl_renaming.proofs.RenamedTurns.{around_alike, depth_alike, drains_alike, is_lost_alike, may_lose_alike, turns_alike}

module _ (names : Names) (apart : AreApart names) where
  -- ---- bench events

  happens_alike : (event : BenchEvent) (s new : Device) (answers : List Reply) → Happens event s answers new → Happens event (device_by names s) (replies_by names answers) (device_by names new)
  happens_alike (bench.Strike which lba) s new answers h = record { none = ap (replies_by names) h.none; new_is = ap (device_by names) h.new_is }
  happens_alike (bench.Mend lba) s new answers h = record { none = ap (replies_by names) h.none; new_is = ap (device_by names) h.new_is }
  happens_alike (bench.Glitch count) s new answers h = record { none = ap (replies_by names) h.none; new_is = ap (device_by names) h.new_is }
  happens_alike (bench.Order order) s new answers h = record { none = ap (replies_by names) h.none; new_is = ap (device_by names) h.new_is }
  happens_alike bench.Power s new answers h = record { none = ap (replies_by names) h.none; cells = h.cells; stays = ap (device_by names) h.stays }
  happens_alike bench.Unplug s new answers h = is_lost_alike names s new answers h

  -- ---- task management functions

  -- an effect that takes off the same tasks
  record IsAlike (old new : Effect) : Type 0 where
    pub goes : (t : Entry) → new.goes (entry_by names t) ≡ old.goes t
    pub attentions : new.attentions ≡ old.attentions
    pub response : new.response ≡ old.response

  module _ (m : Manage) (s : Device) where
    any_of : (nexus : ℕ) → list_any (is_of nexus) (entries_by names s.tasks) ≡ list_any (is_of nexus) s.tasks
    any_of nexus = any_alike names (is_of nexus) (is_of nexus) (λ t. refl) s.tasks

    effect_of_alike : (function : Function) → IsAlike (effect_of function m s) (effect_of function (manage_by names m) (device_by names s))
    effect_of_alike functions.AbortTask = record { goes = called_alike names apart m.nexus (m.tag).0; attentions = refl; response = refl }
    effect_of_alike functions.AbortTaskSet = record { goes = λ t. refl; attentions = refl; response = refl }
    effect_of_alike functions.ClearTaskSet = record { goes = λ t. refl; attentions = ap (λ p. post p conditions.Cleared s.attentions) (fun_ext (λ nexus. ap (λ b. not (nexus == m.nexus) && b) (any_of nexus))); response = refl }
    effect_of_alike functions.UnitReset = record { goes = λ t. refl; attentions = refl; response = refl }
    effect_of_alike functions.NexusReset = record { goes = λ t. refl; attentions = refl; response = refl }
    effect_of_alike functions.QueryTask = record { goes = λ t. refl; attentions = refl; response = ap found (any_called names apart m.nexus (m.tag).0 s.tasks) }
    effect_of_alike functions.QueryTaskSet = record { goes = λ t. refl; attentions = refl; response = ap found (any_of m.nexus) }

    one_alike : (o : Option Function) → IsAlike (effect_or_none o m s) (effect_or_none o (manage_by names m) (device_by names s))
    one_alike None = record { goes = λ t. refl; attentions = refl; response = refl }
    one_alike (Some function) = effect_of_alike function

    chosen_alike : (b : Bool) {old other new another : Effect} → IsAlike old new → IsAlike other another → IsAlike (if b then old else other) (if b then new else another)
    chosen_alike true h k = h
    chosen_alike false h k = k

    effect_alike : IsAlike (effect m s) (effect (manage_by names m) (device_by names s))
    effect_alike =
        chosen_alike (has_unit (function_of m.function) && not (is_unit_0 m.lun)) (record { goes = λ t. refl; attentions = refl; response = refl }) (one_alike (function_of m.function))

    managed_alike : (response : Response) (new : Device) → IsManaged m s response new → IsManaged (manage_by names m) (device_by names s) response (device_by names new)
    managed_alike response new h =
        let e = effect_alike in
        record {
          response_is = h.response_is ∙ sym e.response;
          stays = ap (device_by names) h.stays
              ∙ ap (λ ts. record s { tasks = ts; attentions = (effect m s).attentions }) (sym (filter_alike names (λ t. not ((effect m s).goes t)) (λ t. not ((effect (manage_by names m) (device_by names s)).goes t)) (λ t. ap not (e.goes t)) s.tasks))
              ∙ ap (λ a. record s { tasks = filter (λ t. not ((effect (manage_by names m) (device_by names s)).goes t)) (entries_by names s.tasks); attentions = a }) (sym e.attentions);
        }

  manages_alike : (m : Manage) (response : Response) (s new : Device) (answers : List Reply) → Manages m response s answers new → Manages (manage_by names m) response (device_by names s) (replies_by names answers) (device_by names new)
  manages_alike m response s new answers h = (ap (replies_by names) h.0, managed_alike m s response new h.1)

  -- ---- events

  -- replies as answers
  told_alike : (replies : List Reply) → answers_by names (map replied replies) ≡ map replied (replies_by names replies)
  told_alike [] = refl
  told_alike (r ∷ rs) = ap (λ l. replied (reply_by names r) ∷ l) (told_alike rs)

  group_alike : (now : List Answer) (replies : List Reply) → now ≡ map replied replies → answers_by names now ≡ map replied (replies_by names replies)
  group_alike now replies is = ap (answers_by names) is ∙ told_alike replies

  ended_alike : (now : List Answer) (replies : List Reply) (a : Answer) → now ≡ map replied replies ++ a ∷ [] → answers_by names now ≡ map replied (replies_by names replies) ++ answer_by names a ∷ []
  ended_alike now replies a is = ap (answers_by names) is ∙ map-append (answer_by names) (map replied replies) (a ∷ []) ∙ ap (λ l. l ++ answer_by names a ∷ []) (told_alike replies)

  -- what an event does
  pub does_alike : (event : Frame) (s new : Device) (now : List Answer) (d : ℕ) → Does event s now new d → Does (frame_by names event) (device_by names s) (answers_by names now) (device_by names new) d
  does_alike (frames.Request r) s new now d h = (
    replies_by names h.0,
    group_alike now h.0 h.1,
    around_alike names (MayLose (Arrives r)) (MayLose (Arrives (request_by names r))) (may_lose_alike names (Arrives r) (Arrives (request_by names r)) (λ u v answers k. arrives_alike names u r apart answers v k)) s new h.0 h.2,
    h.3 ∙ sym (depth_alike names new),
  )
  does_alike (frames.Manage m) s new now d h =
      let k = h.0 in (
        record {
          response = k.response;
          replies = replies_by names k.replies;
          step = around_alike names (MayLose (Manages m k.response)) (MayLose (Manages (manage_by names m) k.response)) (may_lose_alike names (Manages m k.response) (Manages (manage_by names m) k.response) (manages_alike m k.response)) s new k.replies k.step;
          answer = ended_alike now k.replies (managed m.nexus m.function k.response m.tag) k.answer;
        },
        h.1 ∙ sym (depth_alike names new),
      )
  does_alike (frames.Turn count) s new now d h =
      (replies_by names h.0, h.1, group_alike now h.0 h.2, turns_alike names apart h.3, h.4 ∙ ap (max h.1) (sym (depth_alike names new)))
  does_alike (frames.Bench event) s new now d h =
      (replies_by names h.0, group_alike now h.0 h.1, around_alike names (Happens event) (Happens event) (happens_alike event) s new h.0 h.2, h.3 ∙ sym (depth_alike names new))
  does_alike frames.End s new now d h = (replies_by names h.0, ended_alike now h.0 closed h.1, drains_alike names apart s new h.0 d h.2)

  pub losses_alike : (event : Frame) (old new : Device) → losses_in (frame_by names event) (device_by names old) (device_by names new) ≡ losses_in event old new
  losses_alike (frames.Request r) old new = refl
  losses_alike (frames.Manage m) old new = refl
  losses_alike (frames.Turn count) old new = refl
  losses_alike (frames.Bench event) old new = refl
  losses_alike frames.End old new = refl
