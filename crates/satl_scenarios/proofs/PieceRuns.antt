-- WRITE SAME and VERIFY that meet a flaw or a CRC error, and a WRITE SAME that unmaps.
use Rattle.std.proofs.Common.{◌≡◌, inl, inr, refl, false, true, ℕ, ◌+◌, List, [], ◌∷◌, ◌++◌, replicate}
use Rattle.satl_base.specs.declared.block.Block.{Block}
use Rattle.satl_base.specs.declared.reply.Reply.{Reply}
use Rattle.satl_base.specs.Cells.{Cell, Pair, Part, pairs_from, put_at, whole, lasts}
use Rattle.satl_base.specs.Blocks.{over}
use Rattle.satl_cdb.specs.declared.command.Command.{Command}
use Rattle.satl_cdb.specs.declared.command.Command.TheVariants.{Verify, WriteSame}
use Rattle.satl_cdb.specs.declared.command.Form.TheVariants.{Ten}
use Rattle.satl_frame.specs.Output.Answer.{replied}
use Rattle.satl_sense.specs.Fixed.{fixed_form}
use Rattle.satl_line.specs.declared.entry.Entry.{Entry}
use Rattle.satl_line.specs.Ranged.RangedTask.{ranged_trim}
use Rattle.satl_direct.specs.Device.{Device}
use Rattle.satl_direct.specs.Ending.{Ends, EndsWithCrcError, IsPartlyWritten, task_check}
use Rattle.satl_direct.specs.Run.{depth}
use Rattle.satl_direct.specs.Senses.{crc_error}
use Rattle.satl_scenarios.specs.Commands.{written}
use Rattle.satl_scenarios.specs.Pieces.{compare_flawed, compare_garbled, flawed_at_the_end, glitchy_ends, glitchy_with, same_garbled, same_garbled_before_the_flaw, same_torn, same_unmapped}
use Rattle.satl_scenarios.specs.Scenario.{CanHappen}
use Rattle.satl_scenarios.specs.Devices.{aa, bb, unreadable, zeros}
use Rattle.satl_scenarios.specs.Requests.{task}
use Rattle.satl_scenarios.proofs.Building.{it_can_happen, one_turn}
use Rattle.satl_scenarios.proofs.Building.Follows.{next, ends_here}
use Rattle.satl_scenarios.proofs.CommandRuns.{turn_ends}
use Rattle.satl_scenarios.proofs.Endings.{done, ended, once_flawed, once_glitched}

-- the first pairs are put, and the others are left out
part_front : (cells : List Cell) (front back : List Pair) → Part cells (front ++ back) (whole cells front)
part_front cells [] [] = refl
part_front cells [] (p ∷ ps) = inl (part_front cells [] ps)
part_front cells (p ∷ ps) back = inr (part_front (put_at cells p) ps back)

-- a flaw, and a CRC error, when the first pairs are put
torn : (writes front back : List Pair) (cells : List Cell) (s : Device) (t : Entry) → writes ≡ front ++ back → cells ≡ whole s.cells front
    → IsPartlyWritten writes s t (once_flawed cells s t)
torn writes front back cells s t split is = record { part = rw (split, is) (part_front s.cells front back); stays = refl }

garbled : (writes front back : List Pair) (cells : List Cell) (left : ℕ) (s : Device) (t : Entry) → writes ≡ front ++ back → cells ≡ whole s.cells front → left + 1 ≡ s.glitches
    → EndsWithCrcError writes s t (task_check s t crc_error) (once_glitched cells left s t)
garbled writes front back cells left s t split is one = record { answer = refl; part = rw (split, is) (part_front s.cells front back); one_glitch = one; stays = refl }

-- a task that waits alone ends in a turn, with a glitch left
glitchy_turn : (command : Command) (body : List Block) (cells : List Cell) (reply : Reply) (last : Device) → Ends (glitchy_with command body cells) (task 1 command body) reply last → depth last ≡ 0 → last.down ≡ false
    → CanHappen (glitchy_ends command body cells (replied reply) last)
glitchy_turn command body cells reply last e none up =
    it_can_happen (glitchy_ends command body cells (replied reply) last) (next (one_turn last (ended (task 1 command body) (inl refl) e)) (rw (none, up) ends_here))

-- the pairs of the block from an address on
over_all : ℕ → ℕ → List Pair
over_all lba count = pairs_from lba (replicate count bb) true

pub garbled_partly : CanHappen same_garbled
unfolding fixed_form over_all
garbled_partly =
    glitchy_turn (WriteSame Ten 0 2 false) (bb ∷ []) written _ same_garbled.last
    (inl (refl, garbled _ (over_all 0 1) (over_all 1 1) same_garbled.last.cells 0 same_garbled.first (task 1 (WriteSame Ten 0 2 false) (bb ∷ [])) refl refl refl)) refl refl

pub torn_in_the_second_piece : CanHappen same_torn
unfolding fixed_form over_all
torn_in_the_second_piece =
    glitchy_turn (WriteSame Ten 0 65 false) (bb ∷ []) (flawed_at_the_end (lasts zeros)) _ same_torn.last
    (inr (refl, torn _ (over_all 0 64) (over_all 64 1) same_torn.last.cells same_torn.first (task 1 (WriteSame Ten 0 65 false) (bb ∷ [])) refl refl)) refl refl

pub garbled_in_the_first_piece : CanHappen same_garbled_before_the_flaw
unfolding fixed_form over_all
garbled_in_the_first_piece =
    glitchy_turn (WriteSame Ten 0 65 false) (bb ∷ []) (flawed_at_the_end (lasts zeros)) _ same_garbled_before_the_flaw.last
    (inl (refl, garbled _ [] (over_all 0 65) same_garbled_before_the_flaw.last.cells 0 same_garbled_before_the_flaw.first (task 1 (WriteSame Ten 0 65 false) (bb ∷ [])) refl refl refl)) refl refl

pub same_trimmed : CanHappen same_unmapped
same_trimmed =
    turn_ends (WriteSame Ten 0 2 true) (zeros ∷ []) (lasts aa ∷ lasts bb ∷ []) _ same_unmapped.last
    (done (ranged_trim (over 0 2 ∷ [])) _ (task 1 (WriteSame Ten 0 2 true) (zeros ∷ [])) refl) refl refl

pub flaw_before_comparison : CanHappen compare_flawed
unfolding fixed_form
flaw_before_comparison =
    glitchy_turn (Verify Ten 0 2 true) (aa ∷ bb ∷ []) (lasts zeros ∷ unreadable zeros ∷ []) _ compare_flawed.last (record { answer = refl; stays = refl }) refl refl

pub comparison_garbled : CanHappen compare_garbled
unfolding fixed_form
comparison_garbled =
    glitchy_turn (Verify Ten 0 2 true) (aa ∷ zeros ∷ []) written _ compare_garbled.last
    (inl (garbled [] [] [] written 0 compare_garbled.first (task 1 (Verify Ten 0 2 true) (aa ∷ zeros ∷ [])) refl refl refl)) refl refl
