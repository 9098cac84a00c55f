-- What READs were given, and what stays of it as requests come and settle.
use Rattle.std.proofs.Common.{◌≡◌, sym, ap, ◌∙◌, ℕ, ◌+◌, ◌≤◌, ◌<◌, Bool, false, List, [], ◌∷◌, ◌++◌, None, map}
use Rattle.std.specs.Prelude.{◌||◌}
use Rattle.std.specs.List.{AllByRecursion, range_with_len}
use Rattle.std.proofs.lemmas.Bool.{or_parts}
use Rattle.satl_base.specs.declared.block.Block.{Block}
use Rattle.satl_base.specs.declared.reply.Reply.{Reply}
use Rattle.satl_cdb.specs.Table.{says}
use Rattle.satl_frame.specs.Output.{Answer}
use Rattle.satl_laws.specs.ArrivalOrder.{IsGoodReply, IsReadOf}
use Rattle.satl_laws.proofs.Items.{Item, held, is_to_write, left}
use Rattle.satl_laws.proofs.Seen.{range_same}
use Rattle.satl_laws.proofs.Settling.{pending}

module _ (trim : Bool) where
  -- a READ was given these blocks, and no task before it is still to write one of its sectors
  pub record GivesRight (holds : ℕ → Block) (p : ℕ → Bool) (reply : Reply) (lba count : ℕ) : Type 0 where
    pub blocks : reply.body ≡ map holds (range_with_len lba count)
    pub settled : (x : ℕ) → lba ≤ x → x < lba + count → p x ≡ false

  abbrev pub ReadsRight : List Answer → (ℕ → Block) → (ℕ → Bool) → Item → Type 0
  ReadsRight answers holds p i = (reply : Reply) (lba count : ℕ) → IsReadOf (says i.request.cdb trim) lba count → IsGoodReply i.request reply answers → GivesRight holds p reply lba count

  -- each was given what the sectors held by the requests before it
  abbrev pub AllRight : List Answer → (ℕ → Block) → (ℕ → Bool) → List Item → Type 0
  AllRight answers holds p [] = Unit {0}
  AllRight answers holds p (i ∷ is) = ReadsRight answers holds p i × AllRight answers (λ x. left trim i x (holds x)) (λ x. p x || is_to_write i.task x) is

  -- the answers to an item are none but these
  abbrev pub IsTold : List Answer → List Answer → Item → Type 0
  IsTold answers more i = (reply : Reply) → IsGoodReply i.request reply more → IsGoodReply i.request reply answers

  -- sectors that no task is still to write hold the same
  abbrev AgreeOn : (ℕ → Block) → (ℕ → Bool) → (ℕ → Block) → (ℕ → Bool) → Type 0
  AgreeOn holds p others q = (x : ℕ) → p x ≡ false → (others x ≡ holds x) × (q x ≡ false)

  pub right_on : (answers more : List Answer) (items : List Item) (holds others : ℕ → Block) (p q : ℕ → Bool) → AgreeOn holds p others q
      → AllByRecursion (IsTold answers more) items → AllRight answers holds p items → AllRight more others q items
  right_on answers more [] holds others p q same told right = tt
  right_on answers more (i ∷ is) holds others p q same told right = (
    (λ reply lba count reads good. let g = right.0 reply lba count reads (told.0 reply good) in
        record {
          blocks = g.blocks ∙ range_same count lba holds others (λ x from to. sym (same x (g.settled x from to)).0);
          settled = λ x from to. (same x (g.settled x from to)).1;
        }),
    right_on answers more is (λ x. left trim i x (holds x)) (λ x. left trim i x (others x)) (λ x. p x || is_to_write i.task x) (λ x. q x || is_to_write i.task x)
        (λ x h. let s = same x (or_parts (p x) (is_to_write i.task x) h).0 in (ap (left trim i x) s.0, ap (λ b. b || is_to_write i.task x) s.1 ∙ (or_parts (p x) (is_to_write i.task x) h).1))
        told.1 right.1,
  )

  -- one settles
  pub right_leave : (answers more : List Answer) (front back : List Item) (i j : Item) (holds : ℕ → Block) (p : ℕ → Bool) → j.task ≡ None
      → ((x : ℕ) (w : Block) → is_to_write i.task x ≡ false → left trim j x w ≡ left trim i x w)
      → AllByRecursion (IsTold answers more) front → AllByRecursion (IsTold answers more) back
      → ReadsRight more (λ x. held trim x (holds x) front) (pending p front) j → AllRight answers holds p (front ++ i ∷ back) → AllRight more holds p (front ++ j ∷ back)
  right_leave answers more [] back i j holds p none alike told told_back mine right = (
    mine,
    right_on answers more back (λ x. left trim i x (holds x)) (λ x. left trim j x (holds x)) (λ x. p x || is_to_write i.task x) (λ x. p x || is_to_write j.task x)
        (λ x h. (alike x (holds x) (or_parts (p x) (is_to_write i.task x) h).1, ap (λ o. p x || is_to_write o x) none ∙ ap (λ b. b || false) (or_parts (p x) (is_to_write i.task x) h).0))
        told_back right.1,
  )
  right_leave answers more (k ∷ front) back i j holds p none alike told told_back mine right = (
    (λ reply lba count reads good. right.0 reply lba count reads (told.0 reply good)),
    right_leave answers more front back i j (λ x. left trim k x (holds x)) (λ x. p x || is_to_write k.task x) none alike told.1 told_back mine right.1,
  )

  -- one more comes
  pub right_push : (answers : List Answer) (items : List Item) (j : Item) (holds : ℕ → Block) (p : ℕ → Bool)
      → ReadsRight answers (λ x. held trim x (holds x) items) (pending p items) j → AllRight answers holds p items → AllRight answers holds p (items ++ j ∷ [])
  right_push answers [] j holds p mine right = (mine, tt)
  right_push answers (i ∷ is) j holds p mine right = (right.0, right_push answers is j (λ x. left trim i x (holds x)) (λ x. p x || is_to_write i.task x) mine right.1)

  -- one of them
  pub right_at : (answers : List Answer) (front back : List Item) (i : Item) (holds : ℕ → Block) (p : ℕ → Bool) → AllRight answers holds p (front ++ i ∷ back) → ReadsRight answers (λ x. held trim x (holds x) front) (pending p front) i
  right_at answers [] back i holds p right = right.0
  right_at answers (k ∷ front) back i holds p right = right_at answers front back i (λ x. left trim k x (holds x)) (λ x. p x || is_to_write k.task x) right.1
