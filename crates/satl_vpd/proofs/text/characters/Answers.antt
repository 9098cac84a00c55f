use Rattle.std.proofs.Common.{arith}
use Rattle.satl_vpd.proofs.TextsLemmas.{word_more}
use Rattle.satl_vpd.proofs.text.characters.Goals as goal

pub loop-word-preserved : goal.loop-word-preserved
loop-word-preserved c = record {
  text = word_more c.args.first c.loop-word.word c.args.bytes.now c.loop-word.text.items c.push.new.self.items c.push-in-loop-word.new.self.items (omega (arith, c.loop-word.auto.word)) c.loop-word.invariant.text c.push.ensures.items c.push-in-loop-word.ensures.items;
  size = omega (arith, c.loop-word.invariant.size, c.push.ensures.len, c.push-in-loop-word.ensures.len);
}
