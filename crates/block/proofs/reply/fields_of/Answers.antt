-- `block::reply::fields_of` meets its contract.
use Rattle.std.proofs.Common.{refl, inl, inr}
use Rattle.block.specs.Block.{padded}
use Rattle.block.proofs.ReplyLaws.{digit_is}
use Rattle.block.proofs.reply.fields_of.Goals as goal

pub returns-in-Hit : goal.returns-in-Hit
unfolding padded
returns-in-Hit c = rw c.in-Hit.is

pub returns-in-Fill : goal.returns-in-Fill
unfolding padded
returns-in-Fill c = rw c.in-Fill.is

pub returns-in-Evict : goal.returns-in-Evict
unfolding padded
returns-in-Evict c = rw (c.in-Evict.is, digit_is c.in-Evict.dirty c.from.ensures)

pub returns-in-Pass : goal.returns-in-Pass
unfolding padded
returns-in-Pass c = rw c.in-Pass.is

pub returns-in-Flush : goal.returns-in-Flush
unfolding padded
returns-in-Flush c = rw (c.in-Flush.is, digit_is c.in-Flush.dirty c.from-in-Flush.ensures)

pub returns-in-Absent : goal.returns-in-Absent
unfolding padded
returns-in-Absent c = rw c.in-Absent.is

pub returns-in-Policy : goal.returns-in-Policy
unfolding padded
returns-in-Policy c = rw c.in-Policy.is

pub returns-in-Refused : goal.returns-in-Refused
unfolding padded
returns-in-Refused c = rw c.in-Refused.is
