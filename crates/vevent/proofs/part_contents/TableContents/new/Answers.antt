use Rattle.std.proofs.Common.{List, [], subst, rules}
use Rattle.proto_wire.specs.Field.{WireField}
use Rattle.vevent.specs.Private.AnswerParts.{AreAnswerParts}
use Rattle.vevent.proofs.CountLaws.{fields_of_nothing}
use Rattle.vevent.proofs.part_contents.TableContents.new.Goals as goal

pub returns : goal.returns
returns c = λ part. record {
  answer = search rules;
  answers = search rules;
  held = subst (λ (fields : List WireField). AreAnswerParts [] c.new.result fields) fields_of_nothing (c.new.ensures []);
}
