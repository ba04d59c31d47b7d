-- For the worked cases: `unfolding calls_computing` opens the definitions that the calls compute with, beyond those of a step.
use Rattle.waymap.specs.Bits.{lowest, put}
use Rattle.waymap.specs.Ways.{takes}
use Rattle.tree.specs.Tree.{mask, policy, masked, masked_victim, own}
use Rattle.tree.specs.Calls as Tree
use Rattle.nru.specs.Nru as NruRule
use Rattle.nru.specs.Calls as Nru
use Rattle.lru_rule.specs.Calls as Lru
use Rattle.replacement.specs.Rule.{bit64}
use Rattle.replacement.specs.Calls as Alone
use Rattle.replacement.specs.Change.{change_of}
use Rattle.row.specs.Calls.{access_of, flush_of, use_of}
use Rattle.sweep.specs.Clean.{clean}
use Rattle.sweep.specs.Sweep.{sweep_of, drops, swept_lines, sweep_by}
use Rattle.sweep.specs.Drops.{added_to}
use Rattle.sweep.specs.Number.{lines_among}
use Rattle.domains.specs.Calls.{maps_from, policies_of, read_by, used_of, changed_of}
use Rattle.verdict.specs.Calls.{policy_refusal_of}
use Rattle.geometry.specs.Address.{place_of}
use Rattle.geometry.specs.Geometry.{sizes_of}
use Rattle.fresh.specs.Calls.{fresh_of}
use Rattle.demand.specs.Free.{digit, some_in, free_from, is_free}
use Rattle.demand.specs.Order.{fresh_word, way_at, how_many, first_of, is_order, place_of as place_in}
use Rattle.demand.specs.Demand.{fresh as fresh_state, domain_at, struck_out, verdict_of, is_own, is_pair}
use Rattle.reached.specs.Balance.{held}
use Rattle.steps.specs.Deed.{on_row, work_at, unless, line_deed, drop_map, drops_among, drops_by, policy_deed, put_deed}
use Rattle.endian.specs.Bytes.{value, digits, field, put_field, cut, joined}
use Rattle.runs.specs.Runs.{numbers, bytes_of, read_run, put_run}
use Rattle.tracefile.specs.File.{last_steps, bad_file, file_refusal}
use Rattle.block.specs.Layout.{sizes, counts_from, counts_in, domains_from, state_in, state_of, head_of, counts_bytes, state_bytes, block_of}
use Rattle.block.specs.Block.{length_refusal, block_refusal, fresh_call, step_turn, state_after, padded, number_in, filled, step_call}
use Rattle.command.specs.Command.{code_of, command_of, commands_of}
use Rattle.selectors.specs.Selectors.{names_core, coreless, record_by}
use Rattle.purge.specs.Purge.{keeps, keeps_by, core_purge}
use Rattle.purge.specs.Calls.{purge_of}
use Rattle.isolation.specs.StruckOut.{answers_to, number_of, verdicts}
use Rattle.switching.specs.StruckOut.{core_answers_to, core_verdicts}
use Rattle.isolation.specs.Lookups.{lookup_at, visited_at, visits_of}
use Rattle.switching.specs.Lookups.{along_by, core_along, own_core_visits}
use Rattle.balance.specs.Tally.{told, removes, tallied, tally, tallied_by, core_tally}
use Rattle.locking.specs.Locked.{locked, locked_in, is_locked}
use Rattle.locking.specs.Locking.{strike}
use Rattle.listing.specs.Listing.{decimal_by, line, told as told_of, answer_lines, domain_line, domain_part, domain_lines, run_lines, listing}
use Rattle.listing.specs.Before.{lines_before, listing_before}
use Rattle.trace.specs.Calls.{last_tables, list_of}
use Rattle.cores.specs.Calls.{turn_of}
use Rattle.cores.proofs.Computing.{core_computing}

unfoldable pub calls_computing : Unit {0}
unfolding lowest put takes mask policy masked masked_victim own Tree.victim_of Tree.touch_of Tree.change_of Tree.reset_of Tree.own_of Tree.shares_of
    NruRule.own Nru.victim_of Nru.touch_of Nru.change_of Nru.reset_of Nru.own_of Nru.fresh_of Lru.victim_of Lru.touch_of Lru.ahead Lru.change_of Lru.reset_of
    Lru.own_of Lru.fresh_of bit64 Alone.victim_of Alone.touch_of Alone.fresh_of Alone.own_of Alone.shares_of change_of access_of flush_of use_of clean sweep_of
    drops swept_lines sweep_by added_to lines_among maps_from policies_of read_by used_of changed_of policy_refusal_of place_of sizes_of fresh_of value digits field
    put_field cut joined numbers bytes_of read_run put_run last_steps bad_file file_refusal sizes counts_from counts_in domains_from state_in state_of head_of
    counts_bytes state_bytes block_of length_refusal block_refusal fresh_call step_turn state_after padded number_in filled step_call code_of command_of commands_of
    names_core coreless record_by keeps keeps_by core_purge purge_of answers_to number_of verdicts core_answers_to core_verdicts lookup_at visited_at visits_of
    along_by core_along own_core_visits told removes tallied tally tallied_by core_tally locked locked_in is_locked strike decimal_by line told_of answer_lines
    domain_line domain_part domain_lines run_lines listing lines_before listing_before last_tables list_of turn_of on_row work_at unless line_deed drop_map
    drops_among drops_by policy_deed put_deed held digit some_in free_from is_free fresh_word way_at how_many first_of is_order place_in fresh_state domain_at
    struck_out verdict_of is_own is_pair core_computing
calls_computing = tt
