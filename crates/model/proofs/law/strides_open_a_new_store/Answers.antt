use Rattle.std.proofs.Common.{refl}
use Rattle.model.specs.State.{new_store}
use Rattle.model.specs.Strides.{stride_setting}
use Rattle.model.proofs.NewOpened.{new_is_opened}
use Rattle.model.proofs.law.strides_open_a_new_store.Goals as goal

pub returns : goal.returns
returns g c nodes parties few info notes s asked n =
    new_is_opened (stride_setting g.K.Kind nodes parties)
    (record { store = new_store; info = info; notes = notes; node_order = nodes; party_order = parties }) s asked
    (record {
      limits = record { some_party = parties.round.size_fits.low; few_parties = few; some_node = nodes.round.size_fits.low; few_nodes = nodes.round.size_fits.high };
      store_is = refl;
      sized = record { nodes = refl; parties = refl };
    })
    n
