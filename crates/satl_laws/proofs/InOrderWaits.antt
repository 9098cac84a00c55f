-- A request that waits keeps the order of arrival.
use Rattle.std.proofs.Common.{◌≡◌, ⊎_elim, inl, inr, refl, sym, ap, ◌∙◌, subst, Bool, true, false, List, [], ◌∷◌, ◌++◌, Some, arith}
use Rattle.satl_base.specs.declared.request.Request.{Request}
use Rattle.satl_base.specs.Cells.{Cell}
use Rattle.satl_base.specs.Lists.{how_many}
use Rattle.satl_base.proofs.ListsLemmas.{All-push_end}
use Rattle.satl_cdb.specs.Table.{says}
use Rattle.satl_frame.specs.declared.frames.Frame.{Frame}
use Rattle.satl_frame.specs.declared.frames.Frame.TheVariants as frames
use Rattle.satl_frame.specs.Output.{Answer}
use Rattle.satl_frame.specs.Output.Answer.{replied}
use Rattle.satl_line.specs.declared.entry.Entry.{Entry}
use Rattle.satl_line.specs.Conflict.{conflicts}
use Rattle.satl_line.proofs.EligibleLemmas.{eligible_come}
use Rattle.satl_direct.specs.Device.{is_called}
use Rattle.satl_laws.specs.ArrivalOrder.{is_done, read_at, writes_plainly}
use Rattle.satl_laws.specs.OnceEach.{asks_by}
use Rattle.satl_laws.proofs.Arrivals.{IsOf}
use Rattle.satl_laws.proofs.Bringing.{Waits}
use Rattle.satl_laws.proofs.Cases.{how_many-append}
use Rattle.satl_laws.proofs.Weighing.{weigh}
use Rattle.satl_laws.proofs.Given.{right_push}
use Rattle.satl_laws.proofs.InOrder.{Begin, InOrder, IsAside, IsOnly, IsSure, sectors, trim}
use Rattle.satl_laws.proofs.Items.{IsWell, Item, held-append, waiting-append}
use Rattle.satl_laws.proofs.Names.{none_in}
use Rattle.satl_laws.proofs.Settling.{sorted_push}
use Rattle.satl_laws.proofs.Standing.{Stands}
use Rattle.satl_laws.proofs.InOrderArrivals.{not_done, requests_push}

module _ (first : Begin) where
  module _ (events : List Frame) (answers : List Answer) (cells : List Cell) (tasks : List Entry) (faithful : Bool) (r : Request) (o : InOrder first events answers cells tasks faithful)
      (unasked : how_many (asks_by r.nexus (r.tag).0) events ≡ 0) where
    -- it waits
    pub waits_in_order : (task : Entry) → IsOf r task → Waits (sectors first) (says r.cdb (trim first)) r.body task → writes_plainly (says r.cdb (trim first)) ≡ true → first.waits r ≡ true
        → InOrder first (events ++ frames.Request r ∷ []) answers cells (tasks ++ task ∷ []) faithful
    waits_in_order task of it plain may = record {
      items = o.items ++ mine ∷ [];
      requests = requests_push first events answers cells tasks faithful r o unasked mine refl;
      tasks_are = ap (λ l. l ++ task ∷ []) o.tasks_are ∙ sym (waiting-append o.items (mine ∷ []));
      size = o.size;
      counts = λ nexus tag.
          let named : weigh nexus tag task.nexus task.tag ≡ weigh nexus tag r.nexus r.tag = ap (λ k. weigh nexus tag k task.tag) of.nexus ∙ ap (weigh nexus tag r.nexus) of.tag in
          omega (arith, o.counts nexus tag, named, how_many-append (is_called nexus tag) tasks (task ∷ []), how_many-append (asks_by nexus tag) events (frames.Request r ∷ []));
      well = All-push_end (IsWell (trim first) (sectors first)) o.items mine o.well
          (record { waits = record { idle = λ x. refl; nexus = of.nexus; tag = of.tag; says_it = it.says_it; leaves = it.leaves; plain = sym (ap writes_plainly it.says_it) ∙ plain; fits = it.fits } });
      sorted = λ x inside. sorted_push (trim first) x o.items mine (λ w. refl) (o.sorted x inside);
      stands = λ x inside. subst (λ h. Stands x (read_at cells x) h (tasks ++ task ∷ [])) (sym (held-append (trim first) x (read_at first.device.cells x) o.items (mine ∷ [])))
          (⊎_elim (λ is. inl is) (λ early. inr (record { task = early.task; eligible = eligible_come conflicts tasks (task ∷ []) early.task early.eligible; writes_it = early.writes_it; is = early.is })) (o.stands x inside));
      sure = All-push_end (IsSure first answers) o.items mine o.sure (λ h x. let no : true ≡ false = sym h ∙ (not_done first events answers cells tasks faithful r o unasked) in absurd cc);
      only = λ f. All-push_end (IsOnly first answers) o.items mine (o.only f) (λ x h. absurd cc);
      aside = All-push_end (IsAside first answers) o.items mine o.aside (λ no. let never : true ≡ false = sym may ∙ no in absurd cc);
      right = right_push (trim first) answers o.items mine (read_at first.device.cells) (λ x. false)
          (λ q lba count reads g. let no : true ≡ false = sym g.done ∙ none_in (is_done r) answers (replied q) (not_done first events answers cells tasks faithful r o unasked) g.among in absurd cc) o.right;
    }
      where
        mine : Item
        mine = record { request = r; task = Some task; acted = λ x. false }
