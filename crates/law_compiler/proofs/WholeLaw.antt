-- The law of every graph: all its parts are proved.
use Rattle.std.proofs.Common.{ℕ, ◌≤◌, arith}
use Rattle.semantics.specs.declared.graph.Kind.{Kind}
use Rattle.law_net.specs.ContextsPackages.{AllPackages}
use Rattle.law_net_refines_meaning.proofs.Firings.{all_meant}
use Rattle.law_net.proofs.WiredWords.{words_are_fit}
use Rattle.law_net.proofs.WiredFed.{inlets_are_fed}
use Rattle.law_net.proofs.WiredEntered.{arms_are_entered}
use Rattle.law_net.proofs.WiredRivals.{rivals_are_apart}
use Rattle.law_net.proofs.RunsArrives.{is_once, is_of_one_block, is_caused}
use Rattle.law_net.proofs.RunsAgree.{agrees}
use Rattle.law_net.proofs.RunsMatching.{is_matching}
use Rattle.law_net.proofs.CreditsTaken.{credits_take_them}
use Rattle.law_net.proofs.ContextsCoded.{all_coded}
use Rattle.law_net.proofs.CreditsKept.{bound_is_kept}
use Rattle.law_net.proofs.RunsLands.{lands}
use Rattle.law_machine_refines_net.proofs.HostsStarts.{starts, tokens_are_items}
use Rattle.law_machine_refines_net.proofs.MovesEvents.{events_follow}
use Rattle.law_end.proofs.OverLast.{releases_last}
use Rattle.law_end.proofs.RestExact.{all_exact_at_rest}
use Rattle.law_end.proofs.RestStores.{all_second_stores}
use Rattle.law_end.proofs.Causes.{all_caused_by_meaning}
use Rattle.law_end.proofs.Clean.{all_clean_at_rest}
use Rattle.law_wiring.proofs.Whole.{every_is_static}
use Rattle.law_compiler.specs.Whole.{GraphsKeepPromises}
use Rattle.law_compiler.proofs.Whole.{parts_suffice}

pub packages : AllPackages
packages = record {
  starts = starts;
  tokens = tokens_are_items;
  events = events_follow;
  meant = all_meant;
  words = λ fl p w inputs good fit. words_are_fit fl p w good inputs fit;
  fed = λ fl p w inputs good fit. inlets_are_fed fl p w good inputs fit;
  entered = λ fl p w inputs good fit. arms_are_entered fl p w good inputs fit;
  rivals = λ fl p w inputs good fit. rivals_are_apart fl p w good inputs;
  once = λ fl p w inputs q m good fit k. is_once fl p w inputs q m good k;
  caused = λ fl p w inputs q m good fit k. is_caused fl p w inputs q m good k;
  agree = λ fl p w inputs q m good fit k. agrees fl p w inputs q m good k fit;
  block = λ fl p w inputs q m good fit k. is_of_one_block fl p w inputs q m good k;
  matching = λ fl p w inputs q m good fit k. is_matching fl p w inputs q m good k (credits_take_them fl p w inputs q m good k);
  bound = λ fl p w inputs q m good fit k. bound_is_kept fl p w inputs q m good k (all_coded fl p w good);
  lands = λ fl p w inputs q m good fit k. lands fl p w inputs q m good k;
  release = releases_last;
  exact = all_exact_at_rest;
  second_store = all_second_stores;
  clean = all_clean_at_rest;
  cause = all_caused_by_meaning;
}

pub graphs_keep_promises : GraphsKeepPromises
graphs_keep_promises g slots version text well good same =
    parts_suffice packages every_is_static g slots version text well good same
