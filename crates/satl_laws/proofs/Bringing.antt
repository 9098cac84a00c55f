-- What an arrival may be of a request that changes no block but as a WRITE does.
use Rattle.std.proofs.Common.{◌≡◌, refl, sym, ap, ◌∙◌, cond, subst, ℕ, Bool, true, false, List, [], ◌∷◌, Some}
use Rattle.std.specs.Prelude.{◌||◌, slice_index, Result, Ok, Err}
use Rattle.std.specs.Option.{option_map_or}
use Rattle.satl_base.specs.declared.block.Block.{Block}
use Rattle.satl_base.specs.declared.reply.Reply.{Reply}
use Rattle.satl_cdb.specs.declared.command.Command.{Command}
use Rattle.satl_cdb.specs.declared.command.Command.TheVariants as commands
use Rattle.satl_cdb.specs.declared.command.Illegal.{Illegal}
use Rattle.satl_cdb.specs.Rows.{Rule, broken_rule, format_of, found_says, unless_broken}
use Rattle.satl_cdb.specs.PrimaryCommands.{inquiry, request_sense}
use Rattle.satl_cdb.specs.Table.{says, table}
use Rattle.satl_line.specs.declared.entry.Entry.{Entry}
use Rattle.satl_direct.specs.Arrival.{Arrival}
use Rattle.satl_direct.specs.Arrival.Arrival.{answered, attended, overlaps, waits}
use Rattle.satl_laws.specs.ArrivalOrder.{IsReadOf, brought, is_good}
use Rattle.satl_laws.proofs.Transferring.{Transfers, after, brings, gives}
use Rattle.satl_laws.proofs.Seen.{by_test}

-- an answer at once: where it says GOOD, the request writes nothing, and reads nothing
pub record Answers (said : Result Command Illegal) (body : List Block) (reply : Reply) : Type 0 where
  pub writes_none : is_good reply.status ≡ true → (x : ℕ) (v : Block) → brought said body x v ≡ v
  pub reads_none : is_good reply.status ≡ true → (lba count : ℕ) → IsReadOf said lba count → (count ≡ 0) × (reply.body ≡ [])

-- a task of the request
pub record Waits (n : ℕ) (said : Result Command Illegal) (body : List Block) (t : Entry) : Type 0 where
  pub says_it : said ≡ Ok t.command
  pub fits : gives t.command || brings t.command ≡ true → Transfers n t
  pub leaves : (x : ℕ) (v : Block) → after t x v ≡ brought said body x v

-- what a request becomes on a device of so many sectors, that has a task of its nexus and tag or not
abbrev pub Gets : ℕ → Bool → Result Command Illegal → List Block → Arrival → Type 0
Gets n has said body (answered reply) = Answers said body reply
Gets n has said body (attended reply) = Answers said body reply
Gets n has said body (overlaps reply) = has ≡ true
Gets n has said body (waits task) = Waits n said body task

-- an answer that is not GOOD
pub refused : (said : Result Command Illegal) (body : List Block) (reply : Reply) → is_good reply.status ≡ false → Answers said body reply
refused said body reply h = record {
  writes_none = λ good. absurd (let no : true ≡ false = sym good ∙ h in cc);
  reads_none = λ good. absurd (let no : true ≡ false = sym good ∙ h in cc);
}

-- GOOD to a request that is not understood
pub unknown : (why : Illegal) (body : List Block) (reply : Reply) → Answers (Err why) body reply
unknown why body reply = record { writes_none = λ good x v. refl; reads_none = λ good lba count is. absurd is }

-- a command that is no READ and no WRITE brings nothing
pub none_brought : (c : Command) → gives c || brings c ≡ false → (body : List Block) (x : ℕ) (v : Block) → brought (Ok c) body x v ≡ v
none_brought (commands.Write form lba count fua) h body x v = absurd cc
none_brought c h body x v = refl

-- and is no READ
pub none_read : (c : Command) → gives c || brings c ≡ false → (lba count : ℕ) → IsReadOf (Ok c) lba count → ⊥
none_read (commands.Read form from number fua) h lba count is = cc
none_read c h lba count is = is

-- any answer to such a command
pub silent : (c : Command) → gives c || brings c ≡ false → (body : List Block) (reply : Reply) → Answers (Ok c) body reply
silent c h body reply = record { writes_none = λ good x v. none_brought c h body x v; reads_none = λ good lba count is. absurd (none_read c h lba count is) }

-- a row of the table that is no READ and no WRITE
pub found_unknown : (rules : List Rule) (cdb : List ℕ) (c : Command) → gives c || brings c ≡ false → (body : List Block) (reply : Reply) → Answers (unless_broken rules cdb c) body reply
found_unknown [] cdb c other body reply = silent c other body reply
found_unknown (rule ∷ rules) cdb c other body reply =
    by_test (λ b. Answers (option_map_or (λ (r : Rule). Err r.refusal) (cond b (Some rule) (broken_rule rules cdb)) (Ok c)) body reply) (rule.breaks cdb)
    (λ broken. unknown rule.refusal body reply)
    (λ fine. found_unknown rules cdb c other body reply)

-- no INQUIRY is a READ or a WRITE
pub inquiry_unknown : (cdb : List ℕ) (trim : Bool) → slice_index cdb 0 ≡ 0x12 → (body : List Block) (reply : Reply) → Answers (says cdb trim) body reply
unfolding says
inquiry_unknown cdb trim code body reply =
    let is : says cdb trim ≡ found_says (Some inquiry) cdb = ap (λ c. found_says (format_of (table trim) c) cdb) code in
    subst (λ said. Answers said body reply) (sym is) (found_unknown (inquiry.rules) cdb (inquiry.command cdb) refl body reply)

-- nor is REQUEST SENSE
pub sense_unknown : (cdb : List ℕ) (trim : Bool) → slice_index cdb 0 ≡ 0x03 → (body : List Block) (reply : Reply) → Answers (says cdb trim) body reply
unfolding says
sense_unknown cdb trim code body reply =
    let is : says cdb trim ≡ found_says (Some request_sense) cdb = ap (λ c. found_says (format_of (table trim) c) cdb) code in
    subst (λ said. Answers said body reply) (sym is) (found_unknown (request_sense.rules) cdb (request_sense.command cdb) refl body reply)
