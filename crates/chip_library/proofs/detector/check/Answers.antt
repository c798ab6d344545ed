use Rattle.chip_library.proofs.detector.check.Goals as goal

pub returns : goal.returns
returns c = record {
  ins_have = c.are_numbered.ensures.0 c.if-not-are_numbered.false;
  outs_have = c.are_numbered-2.ensures.0 c.if-not-are_numbered-2.false;
  sound = record {
    ins = c.are_sound.ensures.0 c.if-not-are_sound.false;
    outs = c.are_sound-2.ensures.0 c.if-not-are_sound-2.false;
    engaged = (c.suits.ensures.0 c.if-not-suits.false).engaged;
    neutral = (c.suits.ensures.0 c.if-not-suits.false).neutral_owes;
  };
}
