-- What a run of the units is, once it stops, from the magic on.
use Rattle.std.proofs.Common.{◌≡◌, inl, inr, refl, sym, ap, subst, arith, ◌∙◌, ℕ, ◌+◌, ◌≤◌, false, List, [], ◌∷◌}
use Rattle.std.specs.Prelude.{Bool, Option}
use Rattle.std.specs.List.{AllByRecursion}
use Rattle.satl_base.specs.Limits.{input_limit}
use Rattle.satl_io.specs.Known.{Wrote, WrotePart}
use Rattle.satl_io.proofs.Joined.{Wrote-more, Wrote-none}
use Rattle.satl_frame.specs.declared.frames.FrameFault.{FrameFault}
use Rattle.satl_frame.specs.declared.frames.FrameFault.TheVariants.{Bad, ReadFault}
use Rattle.satl_frame.specs.declared.frames.Reason.{Reason}
use Rattle.satl_frame.specs.declared.frames.Version.TheVariants.{One}
use Rattle.satl_frame.specs.Output.{fault_bytes, out_magic}
use Rattle.satl_frame.specs.Progress.{ReadTo}
use Rattle.satl_line.proofs.SlotsLemmas.{All-append}
use Rattle.satl_serve.specs.Forms.{told_of}
use Rattle.satl_serve.specs.Moments.{SinkState}
use Rattle.satl_serve.specs.Runs.{ReadBefore}
use Rattle.satl_serve.specs.Stopping.{Tells, TellsStop}
use Rattle.satl_serve.specs.declared.telling.Form.TheVariants.{Frames}
use Rattle.satl_serve.proofs.RunLemmas.{read_to}
use Rattle.satl_step.specs.Runs.{calls_allowed, is_lost_behind_all}
use Rattle.satl_step.specs.declared.frames_loop.Stop.{Stop}
use Rattle.satl_step.specs.declared.frames_loop.Stop.TheVariants as stops
use Rattle.satl_fleet.specs.Loop.{LoopState, ReachedEnd, Refused, SoFar, StoppedInRound, StoppedSo}
use Rattle.satl_fleet.specs.Output.{IsRoundOf, Round, frames_of, output, rounds_told}
use Rattle.satl_fleet.specs.Rounds.{frame_calls}
use Rattle.satl_fleet.specs.Runs.{HasNoTask}
use Rattle.satl_fleet.specs.Serving.{Target}
use Rattle.satl_fleet.specs.Stopping.{RanBefore, RanTo, RanWhole, Spot, StoppedInAnswers, StoppedInFault, StoppedInMagic}
use Rattle.satl_serve.specs.declared.serving.ServeFault.{ServeFault}
use Rattle.satl_serve.specs.declared.serving.ServeFault.TheVariants as faults
use Rattle.satl_fleet.proofs.CallsLemmas.{due_at_least}
use Rattle.satl_fleet.proofs.RunLemmas.{run_none}

-- where a scene stands that was reached behind what was written
abbrev pub place_of : Option (List ℕ) → LoopState → Spot
place_of written a = record { left = a.left; waited = a.waited; stage = record a.stage { written = written }; calls = a.calls }

-- a scene at which serving begins: a new reader, and the magic was written
pub record Begins (written : Option (List ℕ)) (a : LoopState) : Type 0 where
  pub limit : a.reader.limit ≡ input_limit
  pub newest : a.reader.newest ≡ One
  pub magic : Wrote written a.stage.written out_magic

module _ (units : ℕ) (written : Option (List ℕ)) (a : LoopState) (begins : Begins written a) where
  printed : (rounds : List Round) (now : Option (List ℕ)) → Wrote a.stage.written now (rounds_told units rounds) → Wrote written now (output units rounds)
  printed rounds now wrote = Wrote-more begins.magic wrote

  -- without the turns of the tasks that are left
  fewest : {b : LoopState} {rounds : List Round} → SoFar units a b rounds → b.calls ≤ a.calls + calls_allowed (frame_calls units) (frames_of rounds) false
  fewest {b} {rounds} so_far = omega (arith, so_far.calls, due_at_least (is_lost_behind_all (frames_of rounds) false) b.stage.target b.calls)

  pub whole : (b : LoopState) → ReachedEnd units a b → RanWhole input_limit units (place_of written a) (place_of b.stage.written b)
  whole b e =
      let s = e.so_far in
      let read = read_to input_limit One b.reader a.left b.left (frames_of e.rounds) e.earlier (s.given.limit ∙ begins.limit) (s.given.newest ∙ begins.newest) s.given.read e.ends in
      record {
        rounds = e.rounds;
        are_rounds = s.are_rounds;
        told = record { earlier = e.earlier; place = read.0; ends = e.ends; read = subst (λ fs. ReadTo input_limit One read.0 a.left b.left fs) (sym e.ends) read.1; unwaited = e.unwaited; wrote = printed e.rounds b.stage.written s.wrote };
        run = s.run;
        calls = fewest s;
      }

  module _ (b : LoopState) where
    read_before : (why : FrameFault) → (r : Refused units why a b) → ReadBefore One input_limit a.left b.left (frames_of r.going.rounds) why
    read_before why r = record {
      reader = r.reader;
      mid = r.mid;
      limit_is = r.going.so_far.given.limit ∙ begins.limit;
      newest_is = r.going.so_far.given.newest ∙ begins.newest;
      none_ends = r.going.none_ends;
      read = r.going.so_far.given.read;
      blames = r.blames;
    }

    before : (why : FrameFault) (last : Option (List ℕ)) → Refused units why a b → Wrote b.stage.written last (told_of Frames why) → RanBefore input_limit units why (place_of written a) (place_of last b)
    before why last r wrote = record {
      rounds = r.going.rounds;
      are_rounds = r.going.so_far.are_rounds;
      told = record { read = read_before why r; awaits = r.awaits; wrote = Wrote-more (printed r.going.rounds b.stage.written r.going.so_far.wrote) wrote };
      run = r.going.so_far.run;
      calls = fewest r.going.so_far;
    }

    broken : (reason : Reason) (offset : ℕ) (last : Option (List ℕ)) → Refused units (Bad reason offset) a b → WrotePart b.stage.written last (fault_bytes reason offset) → StoppedInFault input_limit units (place_of written a) (place_of last b)
    broken reason offset last r part = record {
      rounds = r.going.rounds;
      are_rounds = r.going.so_far.are_rounds;
      breaks = record {
        reason = reason;
        offset = offset;
        behind = b.stage.written;
        read = read_before (Bad reason offset) r;
        awaits = r.awaits;
        wrote = printed r.going.rounds b.stage.written r.going.so_far.wrote;
        part = part;
      };
      run = r.going.so_far.run;
      calls = fewest r.going.so_far;
    }

    refused : (why : FrameFault) (last : Option (List ℕ)) (fault : ServeFault) → Refused units why a b → Tells Frames why b.stage.written last fault → RanTo input_limit units (place_of written a) (place_of last b) fault
    refused why last (faults.Open opening) r tells = absurd tells
    refused why last (faults.BadInput reason offset) r (is, wrote) = before (Bad reason offset) last (subst (λ w. Refused units w a b) is r) wrote
    refused why last faults.Read r (is, same) = before ReadFault last (subst (λ w. Refused units w a b) is r) (subst (λ w. Wrote b.stage.written w []) (sym same) (Wrote-none b.stage.written))
    refused why last faults.Write r (reason, offset, is, part) = inr (inr (broken reason offset last (subst (λ w. Refused units w a b) is r) part))

    in_round : StoppedInRound units a b → StoppedInAnswers input_limit units (place_of written a) (place_of b.stage.written b)
    in_round t = record {
      rounds = t.going.rounds;
      round = t.round;
      are_rounds = All-append (IsRoundOf units) t.going.rounds (t.round ∷ []) t.going.so_far.are_rounds (t.is_round, tt);
      breaks = record {
        reader = b.reader;
        behind = t.mid.stage.written;
        limit_is = t.given.limit ∙ begins.limit;
        newest_is = t.given.newest ∙ begins.newest;
        none_ends = t.going.none_ends;
        read = t.given.read;
        unwaited = t.unwaited;
        wrote = printed t.going.rounds t.mid.stage.written t.going.so_far.wrote;
        part = t.part;
      };
      cut = t.cut;
      calls = t.calls;
    }

    -- where frames are carried out no further
    pub stopped : (now after : SinkState) (fault : ServeFault) (stop : Stop) → now.written ≡ b.stage.written → StoppedSo units a b stop → TellsStop Frames now after fault stop → RanTo input_limit units (place_of written a) (place_of after.written b) fault
    stopped now after fault (stops.Refused why) same r told = refused why after.written fault r (subst (λ w. Tells Frames why w after.written fault) same told.tells)
    stopped now after fault stops.Write same t (is, stays) =
        subst (RanTo input_limit units (place_of written a) (place_of after.written b)) (sym is)
        (inr (inl (subst (λ w. StoppedInAnswers input_limit units (place_of written a) (place_of w b)) (sym same ∙ ap (λ (w : SinkState). w.written) (sym stays)) (in_round t))))

-- nothing was read, and the magic was written in part
pub in_magic : (units : ℕ) (left : Option (List ℕ)) (waited : Bool) (written written' : Option (List ℕ)) (t : Target) (calls : ℕ) → AllByRecursion HasNoTask t.units → WrotePart written written' out_magic → StoppedInMagic units (record { left = left; waited = waited; stage = record { target = t; written = written }; calls = calls }) (record { left = left; waited = waited; stage = record { target = t; written = written' }; calls = calls })
in_magic units left waited written written' t calls idle part = record { breaks = record { read = refl; waits = refl; part = part }; run = run_none units 0 t.units idle; calls = omega arith }
