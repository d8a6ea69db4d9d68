use Rattle.c_used.proofs.KeptForms.{begins_with_one_more, used_by_one_more}
use Rattle.c_used.proofs.items.Behind.with.Goals as goal

pub invariant_of-result : goal.invariant_of-result
invariant_of-result c = record {
  used = used_by_one_more c.args.self.names c.add_item.new.names c.args.self.items.items c.push.new.self.items c.args.item
      c.in_ok-add_item.ensures c.in_ok-push.ensures.items c.args.self.used;
  begins = begins_with_one_more c.args.self.some c.has_declaration-some.result c.args.self.items.items c.push.new.self.items c.args.item
      c.has_declaration-some.ensures c.in_ok-push.ensures.items c.args.self.begins;
}
