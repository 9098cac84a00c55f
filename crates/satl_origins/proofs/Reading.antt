-- The law of origins of what is read: the request at a place, its task, and the answers up to the next use of its name.
use Rattle.std.proofs.Common.{◌≡◌, ⊎_elim, inl, inr, refl, sym, ap, ◌∙◌, subst, ℕ, zero, suc, ◌+◌, Bool, true, false, List, [], ◌∷◌, ◌++◌, Some, None, length, map, arith}
use Rattle.std.specs.Prelude.{not, ◌||◌, if◌then◌else◌, slice_get, take, drop, Result, Ok, Err}
use Rattle.std.specs.List.{AllByRecursion, list_any}
use Rattle.std.proofs.lemmas.Bool.{and_parts}
use Rattle.satl_base.specs.declared.block.Block.{Block}
use Rattle.satl_base.specs.declared.request.Request.{Request}
use Rattle.satl_base.specs.declared.reply.Reply.{Reply}
use Rattle.satl_base.specs.Cells.{Cell, nows}
use Rattle.satl_base.specs.Lists.{IsIn}
use Rattle.satl_base.specs.Names.{is_name}
use Rattle.satl_base.proofs.ListsLemmas.{All-in, in_either}
use Rattle.satl_cdb.specs.declared.command.Command.{Command}
use Rattle.satl_cdb.specs.declared.command.Command.TheVariants as commands
use Rattle.satl_cdb.specs.declared.command.Illegal.{Illegal}
use Rattle.satl_cdb.specs.Table.{says}
use Rattle.satl_frame.specs.declared.frames.Frame.{Frame}
use Rattle.satl_frame.specs.declared.frames.Frame.TheVariants as frames
use Rattle.satl_frame.specs.Output.{Answer}
use Rattle.satl_frame.specs.Output.Answer.{replied}
use Rattle.satl_line.specs.declared.entry.Entry.{Entry}
use Rattle.satl_direct.specs.Arrival.{Arrival, arrival}
use Rattle.satl_direct.specs.Arrival.Arrival.{answered, attended, overlaps, waits}
use Rattle.satl_direct.specs.Device.{Device, is_called}
use Rattle.satl_direct.specs.Ending.{Ends}
use Rattle.satl_direct.specs.Quiet.{Quiet}
use Rattle.satl_direct.specs.Run.{Does, RunDeep, joined}
use Rattle.satl_direct.specs.Run.RunDeep.{start, next_event}
use Rattle.satl_direct.specs.Tasks.{range_of}
use Rattle.satl_laws.specs.ArrivalOrder.{IsReadOf, is_good, writes_plainly}
use Rattle.satl_laws.specs.OnceEach.{asks_by}
use Rattle.satl_laws.proofs.Addresses.{Alike, alike_none, alike_on}
use Rattle.satl_laws.proofs.Arrivals.{IsFor, arrival_for}
use Rattle.satl_laws.proofs.Arriving.{arrival_gets}
use Rattle.satl_laws.proofs.Bringing.{Gets}
use Rattle.satl_laws.proofs.Coming.{WritesItsOwn}
use Rattle.satl_laws.proofs.Ends.{ends_leaves}
use Rattle.satl_laws.proofs.Names.{none_in}
use Rattle.satl_laws.proofs.Rows.{in_all}
use Rattle.satl_laws.proofs.Seen.{by_test}
use Rattle.satl_laws.proofs.TaskEnds.{ends_read}
use Rattle.satl_laws.proofs.Transferring.{Transfers, brings, gives, read_of}
use Rattle.satl_renaming.specs.UsedAgain.{finds_its_name, how_many_before, names_are_free}
use Rattle.satl_origins.specs.Origins.{BringsAtArrival, BringsIn, HasOrigin, MayHold, NothingInventedIsRead, WasRead}
use Rattle.satl_origins.proofs.Events.{ArrivalSo, EventSo, does_go}
use Rattle.satl_origins.proofs.Held.{AllSo}
use Rattle.satl_origins.proofs.Runs.{all_own, at_first, blocks_alone, event_so, first_so, nothing_asked}
use Rattle.satl_origins.proofs.Steps.{AnswersSo, Asked, DeviceSo, TaskSo, quiet_goes}

-- ---- a run from its first event on

module _ (B : ℕ → Block → Type 0) where
  -- an event whose request has a free name, and a task that brings blocks that are so
  pub record Link (s : Device) (event : Frame) (now : List Answer) (new : Device) : Type 0 where
    pub depth : ℕ
    pub does : Does event s now new depth
    pub free : finds_its_name event s ≡ false
    pub brings : (x : ℕ) (block : Block) → BringsIn event s x block → B x block

  -- events, from the first on
  pub data Chain : Device → List Frame → List (List Answer) → Device → Type 0 where
    no_more : {s : Device} → Chain s [] [] s
    one_more : {s mid last : Device} {event : Frame} {now : List Answer} {events : List Frame} {groups : List (List Answer)} → Link s event now mid → Chain mid events groups last → Chain s (event ∷ events) (now ∷ groups) last

  chain_push : {s mid last : Device} {events : List Frame} {groups : List (List Answer)} (event : Frame) (now : List Answer) → Chain s events groups mid → Link mid event now last → Chain s (events ++ event ∷ []) (groups ++ now ∷ []) last
  chain_push event now no_more l = one_more l no_more
  chain_push event now (one_more k rest) l = one_more k (chain_push event now rest l)

  -- quiet moves, and then events
  pub record Begun (first last : Device) (events : List Frame) (groups : List (List Answer)) : Type 0 where
    pub begin : Device
    pub quiet : Quiet first begin
    pub chain : Chain begin events groups last

  pub begun : {first last : Device} {events : List Frame} {groups : List (List Answer)} {losses deep : ℕ} (run : RunDeep first events groups losses last deep)
      → ((x : ℕ) (block : Block) → HasOrigin x block run → B x block) → names_are_free run ≡ true → Begun first last events groups
  begun {last = last} (start quiet) its free = record { begin = last; quiet = quiet; chain = no_more }
  begun (next_event {s = s} event now d so_far does) its free =
      let parts = and_parts (names_are_free so_far) (not (finds_its_name event s)) free in
      let b = begun so_far (λ x block h. its x block (inl h)) parts.0 in
      record {
        begin = b.begin;
        quiet = b.quiet;
        chain = chain_push event now b.chain (record { depth = d; does = does; free = not_true (finds_its_name event s) parts.1; brings = λ x block h. its x block (inr h) });
      }
    where
      not_true : (b : Bool) → not b ≡ true → b ≡ false
      not_true true h = absurd cc
      not_true false h = refl

  -- the device at a place of the input, and the events from there on
  pub record Reached (s : Device) (rest : List Frame) (groups : List (List Answer)) (last : Device) : Type 0 where
    pub mid : Device
    pub alike : Alike s mid
    pub device : DeviceSo (blocks_alone B) mid
    pub chain : Chain mid rest groups last

  pub reached : {s last : Device} {groups : List (List Answer)} (before rest : List Frame) → Chain s (before ++ rest) groups last → DeviceSo (blocks_alone B) s → Reached s rest (drop (length before) groups) last
  reached {s = s} [] rest chain so = record { mid = s; alike = alike_none s; device = so; chain = chain }
  reached {s = s} (event ∷ before) rest (one_more {mid = mid} {now = now} l chain) so =
      let g = does_go (blocks_alone B) (nothing_asked B) event s mid now l.depth (event_so B event s l.brings) l.does so in
      let r = reached before rest chain g.device in
      record { mid = r.mid; alike = alike_on s mid r.mid g.alike r.alike; device = r.device; chain = r.chain }

-- ---- what a READ reads

get_now : (cells : List Cell) (place : ℕ) (block : Block) → slice_get (map (λ c. c.now) cells) place ≡ Some block → MayHold cells place block
get_now [] place block h = absurd cc
get_now (c ∷ cs) zero block h = let same : c.now ≡ block = cc in inl (sym same)
get_now (c ∷ cs) (suc place) block h = get_now cs place block h

holds_taken : (n : ℕ) (cells : List Cell) (place : ℕ) (block : Block) → MayHold (take n cells) place block → MayHold cells place block
holds_taken zero cells place block h = absurd h
holds_taken (suc n) [] place block h = h
holds_taken (suc n) (c ∷ cs) zero block h = h
holds_taken (suc n) (c ∷ cs) (suc place) block h = holds_taken n cs place block h

holds_dropped : (n k : ℕ) (cells : List Cell) (place : ℕ) (block : Block) → k ≡ n + place → MayHold (drop n cells) place block → MayHold cells k block
holds_dropped zero k cells place block is h = let same : place ≡ k = omega (arith, is) in subst (λ y. MayHold cells y block) same h
holds_dropped (suc n) k [] place block is h = absurd h
holds_dropped (suc n) zero (c ∷ cs) place block is h = absurd (omega (arith, is))
holds_dropped (suc n) (suc k) (c ∷ cs) place block is h = holds_dropped n k cs place block (omega (arith, is)) h

read_there : (cells : List Cell) (lba count place : ℕ) (block : Block) → slice_get (nows cells lba count) place ≡ Some block → MayHold cells (lba + place) block
read_there cells lba count place block h = holds_dropped lba (lba + place) cells place block refl (holds_taken _ (drop lba cells) place block (get_now (take _ (drop lba cells)) place block h))

-- a READ changes no block
read_plain : (said : Result Command Illegal) (lba count : ℕ) → IsReadOf said lba count → writes_plainly said ≡ true
read_plain (Ok (commands.Read form from number fua)) lba count is = refl
read_plain (Ok command) lba count is = absurd is
read_plain (Err why) lba count is = absurd is

-- ---- the answers to a READ

module _ (B : ℕ → Block → Type 0) (nexus tag lba : ℕ) where
  -- the task of the READ
  record IsTheRead (t : Entry) : Type 0 where
    pub count : ℕ
    pub sectors : ℕ
    pub reads : IsReadOf (Ok t.command) lba count
    pub fits : gives t.command || brings t.command ≡ true → Transfers sectors t

  -- each task of its name is it, and each answer to its name that is GOOD gives blocks that are so
  abbrev of_read : Asked
  of_read = record {
    block = B;
    task = λ t. is_called nexus tag t ≡ true → IsTheRead t;
    reply = λ reply. is_name nexus tag reply.nexus (reply.tag).0 ≡ true → is_good reply.status ≡ true → (place : ℕ) (block : Block) → slice_get reply.body place ≡ Some block → B (lba + place) block;
  }

  read_answered : AnswersSo of_read
  read_answered = record { ending = ending; losing = λ s t known named good. absurd (let no : false ≡ true = good in cc) }
    where
      ending : (s new : Device) (t : Entry) (reply : Reply) → AllSo B s.cells → (is_called nexus tag t ≡ true → IsTheRead t) → Ends s t reply new
          → is_name nexus tag reply.nexus (reply.tag).0 ≡ true → is_good reply.status ≡ true → (place : ℕ) (block : Block) → slice_get reply.body place ≡ Some block → B (lba + place) block
      ending s new t reply so known e named good place block h =
          let l = ends_leaves s new t reply e in
          let called : is_called nexus tag t ≡ true = subst (λ n. is_name nexus tag n (t.tag).0 ≡ true) l.nexus (subst (λ g. is_name nexus tag reply.nexus g.0 ≡ true) l.tag named) in
          let it : IsTheRead t = known called in
          let k = read_of t.command lba it.count it.reads in
          let body = ends_read s new t reply it.sectors (read_plain (Ok t.command) lba it.count it.reads) it.fits e k.0 good in
          subst (λ n. B (n + place) block) k.1
          (so.each ((range_of t.command).lba + place) block (read_there s.cells (range_of t.command).lba (range_of t.command).count place block (subst (λ l. slice_get l place ≡ Some block) body h)))

  -- a request of another name
  other_so : (a : Arrival) (r : Request) (s : Device) → IsFor r a → is_name nexus tag r.nexus (r.tag).0 ≡ false → ((x : ℕ) (block : Block) → BringsAtArrival s a x block → B x block) → ArrivalSo of_read read_answered s a
  other_so a r s to other its = of a to its
    where
      not_its_own : (n g : ℕ) → n ≡ r.nexus → g ≡ (r.tag).0 → is_name nexus tag n g ≡ true → ⊥
      not_its_own n g same_nexus same_tag named = let no : true ≡ false = sym named ∙ ap (λ k. is_name nexus tag k g) same_nexus ∙ ap (is_name nexus tag r.nexus) same_tag ∙ other in cc

      of : (b : Arrival) → IsFor r b → ((x : ℕ) (block : Block) → BringsAtArrival s b x block → B x block) → ArrivalSo of_read read_answered s b
      of (answered reply) k i = λ named. absurd (not_its_own reply.nexus (reply.tag).0 k.nexus (ap (λ g. g.0) k.tag) named)
      of (attended reply) k i = λ named. absurd (not_its_own reply.nexus (reply.tag).0 k.nexus (ap (λ g. g.0) k.tag) named)
      of (overlaps reply) k i = λ named. absurd (not_its_own reply.nexus (reply.tag).0 k.nexus (ap (λ g. g.0) k.tag) named)
      of (waits task) k i = record { own = k.own; brings = i; known = λ called. absurd (not_its_own task.nexus (task.tag).0 k.nexus (ap (λ g. g.0) k.tag) called) }

  others_so : (event : Frame) (s : Device) → asks_by nexus tag event ≡ false → ((x : ℕ) (block : Block) → BringsIn event s x block → B x block) → EventSo of_read read_answered event s
  others_so (frames.Request r) s other its = other_so (arrival s r) r s (arrival_for s r) other its
  others_so (frames.Manage m) s other its = tt
  others_so (frames.Turn count) s other its = tt
  others_so (frames.Bench event) s other its = tt
  others_so frames.End s other its = tt

  -- the answers up to the next use of the name
  told_on : {s last : Device} {events : List Frame} {groups : List (List Answer)} → Chain B s events groups last → DeviceSo of_read s
      → (reply : Reply) → IsIn (replied reply) (joined (take (how_many_before nexus tag events) groups)) → of_read.reply reply
  told_on no_more so reply i = absurd i
  told_on {s = s} (one_more {mid = mid} {event = event} {now = now} {events = events} {groups = groups} l rest) so reply i =
      by_test (λ b. IsIn (replied reply) (joined (take (if b then 0 else suc (how_many_before nexus tag events)) (now ∷ groups))) → of_read.reply reply) (asks_by nexus tag event)
      (λ asks k. absurd k)
      (λ other k.
      let g = does_go of_read read_answered event s mid now l.depth (others_so event s other l.brings) l.does so in
      ⊎_elim (g.told reply) (told_on rest g.device reply) (in_either (replied reply) now (joined (take (how_many_before nexus tag events) groups)) k)) i

-- ---- the request itself

module _ (B : ℕ → Block → Type 0) (r : Request) (lba count : ℕ) where
  abbrev its : Asked
  its = of_read B r.nexus (r.tag).0 lba

  -- what it becomes
  read_arrives : (a : Arrival) (s : Device) (said : Result Command Illegal) (n : ℕ) (has : Bool) → has ≡ false → IsReadOf said lba count → IsFor r a → Gets n has said r.body a
      → ((x : ℕ) (block : Block) → BringsAtArrival s a x block → B x block) → ArrivalSo its (read_answered B r.nexus (r.tag).0 lba) s a
  read_arrives (answered reply) s said n has free is to gets brought = λ named good place block h. absurd (let no : None ≡ Some block = sym (ap (λ l. slice_get l place) (gets.reads_none good lba count is).1) ∙ h in cc)
  read_arrives (attended reply) s said n has free is to gets brought = λ named good place block h. absurd (let no : None ≡ Some block = sym (ap (λ l. slice_get l place) (gets.reads_none good lba count is).1) ∙ h in cc)
  read_arrives (overlaps reply) s said n has free is to gets brought = absurd (let no : true ≡ false = sym gets ∙ free in cc)
  read_arrives (waits task) s said n has free is to gets brought =
      record { own = to.own; brings = brought; known = λ called. record { count = count; sectors = n; reads = subst (λ k. IsReadOf k lba count) gets.says_it is; fits = gets.fits } }

  -- no task has its name before it comes
  named_free : (s : Device) → list_any (is_called r.nexus (r.tag).0) s.tasks ≡ false → DeviceSo (blocks_alone B) s → DeviceSo its s
  named_free s free so = record {
    cells = so.cells;
    tasks = All-in (TaskSo its s) s.tasks
        (λ t i. let k = in_all (TaskSo (blocks_alone B) s) s.tasks t so.tasks i in
        record { own = k.own; brings = k.brings; known = λ called. absurd (let no : true ≡ false = sym called ∙ none_in (is_called r.nexus (r.tag).0) s.tasks t free i in cc) });
  }

  -- its answers
  told_read : {s last : Device} {groups : List (List Answer)} (after : List Frame) → Chain B s (frames.Request r ∷ after) groups last → DeviceSo (blocks_alone B) s → IsReadOf (says r.cdb s.identity.trim) lba count
      → (reply : Reply) → IsIn (replied reply) (joined (take (suc (how_many_before r.nexus (r.tag).0 after)) groups)) → its.reply reply
  told_read {s = s} after (one_more {mid = mid} {now = now} {groups = groups} l rest) so is reply i =
      let comes : ArrivalSo its (read_answered B r.nexus (r.tag).0 lba) s (arrival s r) = read_arrives (arrival s r) s (says r.cdb s.identity.trim) s.identity.capacity (list_any (is_called r.nexus (r.tag).0) s.tasks) l.free is (arrival_for s r)
      (arrival_gets s r (read_plain (says r.cdb s.identity.trim) lba count is)) l.brings in
      let g = does_go its (read_answered B r.nexus (r.tag).0 lba) (frames.Request r) s mid now l.depth comes l.does (named_free s l.free so) in
      ⊎_elim (g.told reply) (told_on B r.nexus (r.tag).0 lba rest g.device reply) (in_either (replied reply) now (joined (take (how_many_before r.nexus (r.tag).0 after) groups)) i)

-- what stands behind a place
pub drop_behind : (before : List Frame) (event : Frame) (after : List Frame) → drop (suc (length before)) (before ++ event ∷ after) ≡ after
drop_behind [] event after = refl
drop_behind (e ∷ before) event after = drop_behind before event after

-- where each block with an origin in the run is so, each that a READ gave is so
pub read_so : (B : ℕ → Block → Type 0) {first last : Device} {all : List Frame} {groups : List (List Answer)} {losses deep : ℕ} (run : RunDeep first all groups losses last deep)
    → ((x : ℕ) (block : Block) → HasOrigin x block run → B x block) → AllByRecursion (λ t. WritesItsOwn t.command) first.tasks → names_are_free run ≡ true
    → (x : ℕ) (block : Block) → WasRead first.identity.trim all groups x block → B x block
read_so B {first = first} {last = last} {all = all} {groups = groups} run its own free x block read =
    let r : Request = read.request in
    let b = begun B run its free in
    let q = quiet_goes (blocks_alone B) first b.begin b.quiet (first_so B first own (λ y v there. its y v (at_first run y v there))) in
    let m = reached B read.before (frames.Request r ∷ read.after) (subst (λ l. Chain B b.begin l groups last) read.input b.chain) q.device in
    let same : (m.mid).identity ≡ first.identity = (alike_on first b.begin m.mid q.alike m.alike).identity in
    let behind : drop (suc (length read.before)) all ≡ read.after = ap (drop (suc (length read.before))) read.input ∙ drop_behind read.before (frames.Request r) read.after in
    let parts = and_parts (is_name r.nexus (r.tag).0 (read.reply).nexus ((read.reply).tag).0) (is_good (read.reply).status) (read.good).done in
    subst (λ y. B y block) (sym read.sector)
    (told_read B r read.lba read.count read.after m.chain m.device (subst (λ i. IsReadOf (says r.cdb i.trim) read.lba read.count) (sym same) read.reads) read.reply
    (subst (λ l. IsIn (replied read.reply) (joined (take (suc (how_many_before r.nexus (r.tag).0 l)) (drop (length read.before) groups)))) behind (read.good).among)
    parts.0 parts.1 read.place block read.gave)

-- the law of origins of what is read
pub nothing_invented_is_read : NothingInventedIsRead
nothing_invented_is_read first last all groups losses deep run x block valid free read =
    read_so (λ y v. HasOrigin y v run) run (λ y v h. h) (all_own first valid) free x block read
